-- The steward's theorem: a frame that is kept shows what the screen showed. The proof is proofs/Theorem.antt.
--
-- Take any run of document 01's "Lists of calls", from an accepted power-on, and any refresh in it that is accepted, while nobody else has
-- written on the picture. Add that picture to any archive (document 02, request [1]), with the lines that the rate shows, and read the new
-- entry back into any picture of 23,040 bytes. If the add is not refused, each shown line is then as draw gives it from the reference's RAM,
-- F5, F6, F7 of that moment.
use Rattle.std.specs.Prelude.{ℕ, ◌+◌, ◌*◌, ◌<◌, ◌≡◌, Bool, true, List, [], ◌∷◌, get_or, length}
use Rattle.lineset.specs.Lines.{shown_count}
use Rattle.paging.specs.declared.Sizes.{Sizes}
use Rattle.paging.specs.declared.Paging.{Paging}
use Rattle.scanline.specs.Drawing.{drawn}
use Rattle.board_power.specs.Power.{power_on_refusal}
use Rattle.picture.specs.Pictures.{refresh_picture}
use Rattle.runs.specs.Reference.{Reference, view_in, refresh_refusal}
use Rattle.runs.specs.Reference as reference
use Rattle.runs.specs.Events.{Event, step, refresh, step_on_other, refresh_on_other, overwritten, Machine, next, fed, undisturbed, Lent, started}
use Rattle.archive.specs.Sound.{count_of}
use Rattle.archive_read.specs.Reading.{read_picture}
use Rattle.archive_lists.specs.Lists.{Add, refusal_of, next_archive, Bytes}

-- the refreshed picture, added with the lines that the rate shows
abbrev pub kept : Machine → Reference → ℕ → ℕ → List ℕ → Add
kept m r bench number room = record {
  bench = bench;
  number = number;
  shown = shown_count r.rate;
  picture = refresh_picture m.board m.ram m.picture;
  room = room;
}

-- read back, each of its shown lines is as drawn
abbrev pub ReadsBack : Machine → Reference → Type 0
ReadsBack m r =
    (archive : List ℕ) (bench number : ℕ) (room picture : List ℕ) → Bytes archive → number < 4294967296 → length picture ≡ 23040
    → refusal_of archive (kept m r bench number room) ≡ 0
    → (L : ℕ) → L < shown_count r.rate → (i : ℕ) → i < 90
    → get_or (read_picture (next_archive archive (kept m r bench number room)) (count_of archive) picture) (90 * L + i) 0 ≡ drawn (view_in r) L i

-- after an accepted refresh of a picture that nobody else wrote on
abbrev pub Kept : Bool → Machine → Reference → Event → Type 0
Kept alone m r (step s boot) = Unit {0}
Kept alone m r refresh = alone ≡ true → refresh_refusal r (length m.picture) ≡ 0 → ReadsBack m r
Kept alone m r (step_on_other s ram boot) = Unit {0}
Kept alone m r (refresh_on_other ram picture) = Unit {0}
Kept alone m r (overwritten picture) = Unit {0}

-- over a list of events
abbrev pub AllKept : Bool → Machine → Reference → List Event → Type 0
AllKept alone m r [] = Unit {0}
AllKept alone m r (e ∷ es) = Lent r.sizes e → Kept alone m r e × AllKept (undisturbed alone e) (next m e) (fed r (length m.picture) e) es

abbrev pub Steward : Type 0
Steward =
    (sizes : Sizes) (rate : ℕ) (paging : Paging) (table top : ℕ) (ram picture : List ℕ) (events : List Event)
    → power_on_refusal sizes rate ≡ 0
    → AllKept true (started sizes rate paging table top ram picture) (reference.start sizes rate paging table top ram) events
