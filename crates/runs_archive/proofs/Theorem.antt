-- The steward's theorem: what demand 3 says of a refresh, and reading after adding, put together.
-- Assumes nothing.
use Prim.Native.Nat.{ℕ, ◌+◌, ◌*◌, ◌≤◌, ◌<◌}
use native.Mathlib.Omega.{arith}
use mathlib.Core.Path.{◌≡◌, ap, ◌∙◌}
use mathlib.Core.Bool.{Bool, true}
use mathlib.Core.List.{List, [], ◌∷◌}
use lib.ListN.{get_or, length, take, drop, get_or-append}
use lib.Seq.{get_or-take, length-take-le}
use Rattle.facts.specs.Lists.{in_room}
use Rattle.archive.proofs.Written.{shown_most}
use Rattle.archive_add.proofs.Adding.{add_taken}
use Rattle.archive_lists.specs.Lists.{Add}
use Rattle.archive_lists.proofs.After.{read_after_add}
use Rattle.runs.specs.Reference.{Reference}
use Rattle.runs.specs.Events.{Event, step, refresh, step_on_other, refresh_on_other, overwritten, Machine, next, fed, undisturbed, Lent, Returns, RefreshReturns, Claims}
use Rattle.runs.proofs.Theorem.{whole_runs}
use Rattle.runs_archive.specs.Steward.{kept, Kept, AllKept, Steward}

-- a byte of what was written at the front
front_at : (text room : List ℕ) (n k : ℕ) → n ≤ length text → k < n → get_or (in_room (take n text) room) k 0 ≡ get_or text k 0
unfolding in_room
front_at text room n k h l =
    let m : k < length (take n text) = rw (length-take-le n text h) l in
    get_or-append (take n text) (drop (length (take n text)) room) 0 k m ∙ get_or-take n text k 0 l

-- one refresh
reads_back : (alone : Bool) (m : Machine) (r : Reference) → RefreshReturns alone m r → Kept alone m r refresh
reads_back alone m r h u z archive bench number room picture bytes small w taken L l i k =
    let c : Add = kept m r bench number room in
    let t = add_taken archive c.bench c.number c.shown (length c.picture) (length c.room) taken in
    let s : c.shown ≤ 256 = shown_most c.shown t.good_shown_lem in
    ap (λ (p : List ℕ). get_or p (90 * L + i) 0) (read_after_add archive c picture bytes small taken w).0.1
    ∙ front_at c.picture picture (c.shown * 90) (90 * L + i) (omega (arith, t.whole)) (omega arith)
    ∙ h.shown u z L l i k

kept_event : (alone : Bool) (m : Machine) (r : Reference) (e : Event) → Returns alone m r e → Kept alone m r e
kept_event alone m r (step s boot) h = tt
kept_event alone m r refresh h = reads_back alone m r h
kept_event alone m r (step_on_other s ram boot) h = tt
kept_event alone m r (refresh_on_other ram picture) h = tt
kept_event alone m r (overwritten picture) h = tt

-- a list
all_kept : (events : List Event) (alone : Bool) (first : List ℕ) (m : Machine) (r : Reference) → Claims alone first m r events → AllKept alone m r events
all_kept [] alone first m r h = tt
all_kept (e ∷ es) alone first m r h =
    λ (l : Lent r.sizes e).
    let q = h.1 l in
    (kept_event alone m r e q.0, all_kept es (undisturbed alone e) first (next m e) (fed r (length m.picture) e) q.1)

pub steward : Steward
steward sizes rate paging table top ram picture events e =
    all_kept events true picture _ _ ((whole_runs sizes rate paging table top ram picture events).1 e)
