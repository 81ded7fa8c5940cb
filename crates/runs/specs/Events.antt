-- Whole runs: document 01, "Lists of calls". The claim about a list is made of a claim about one event; the theorem is in
-- proofs/Theorem.antt.
use Rattle.std.specs.Prelude.{ℕ, ◌+◌, ◌*◌, ◌≤◌, ◌<◌, ◌≡◌, Bool, true, false, cond, ◌&&◌, List, [], ◌∷◌, eqb, get_or, length}
use Rattle.lineset.specs.Lines.{member, count_of, shown_count}
use Rattle.lineset.proofs.Sets.{Words}
use Rattle.paging.specs.declared.Sizes.{Sizes}
use Rattle.paging.specs.declared.Paging.{Paging}
use Rattle.paging.specs.Maps.{ram_fits}
use Rattle.scanline.specs.Drawing.{drawn, picture_fits}
use Rattle.board.specs.declared.record.Board.{Board}
use Rattle.board.specs.Record.{first_refusal}
use Rattle.board_power.specs.Power.{power_on_refusal, powered_on}
use Rattle.step_rules.specs.declared.Step.{Step}
use Rattle.step_rules.specs.Answers.{state_refusal, step_answer, step_ram}
use Rattle.picture.specs.Pictures.{painted, draw_answer, draw_picture, refresh_answer, refresh_picture}
use Rattle.runs.specs.Reference.{Reference, view_in, known_refusal, refresh_refusal}
use Rattle.runs.specs.Reference as reference

-- "The calls are the nine kinds of step and refresh, in any order, refused ones included. The stream may be another at each step."
-- A call may be lent other memory of a wrong length, as a part of the RAM; and others may write on the picture between two calls: then it
-- is the list that they leave.
pub data Event : Type 0 where
  step : Step → List ℕ → Event
  refresh : Event
  step_on_other : Step → List ℕ → List ℕ → Event
  refresh_on_other : List ℕ → List ℕ → Event
  overwritten : List ℕ → Event

pub record Machine : Type 0 where
  pub board : Board
  pub ram : List ℕ
  pub picture : List ℕ

-- "Each call takes the record the one before returned, and the RAM and picture as that one left them." On other memory too it takes and
-- returns the record.
abbrev pub next : Machine → Event → Machine
next m (step s boot) = record {
  board = (step_answer m.board m.ram boot s).board;
  ram = step_ram m.board m.ram boot s;
  picture = m.picture;
}
next m refresh = record {
  board = (refresh_answer m.board m.ram m.picture).board;
  ram = m.ram;
  picture = refresh_picture m.board m.ram m.picture;
}
next m (step_on_other s ram boot) = record { board = (step_answer m.board ram boot s).board; ram = m.ram; picture = m.picture }
next m (refresh_on_other ram picture) = record { board = (refresh_answer m.board ram picture).board; ram = m.ram; picture = m.picture }
next m (overwritten picture) = record { board = m.board; ram = m.ram; picture = picture }

-- what the reference is fed; the number is the length of the lent picture
abbrev pub fed : Reference → ℕ → Event → Reference
fed r picture_length (step s boot) = reference.step r (length boot) s
fed r picture_length refresh = reference.refresh r picture_length
fed r picture_length (step_on_other s ram boot) = r
fed r picture_length (refresh_on_other ram picture) = r
fed r picture_length (overwritten picture) = r

-- whether nobody else has written on the picture
abbrev pub undisturbed : Bool → Event → Bool
undisturbed alone (step s boot) = alone
undisturbed alone refresh = alone
undisturbed alone (step_on_other s ram boot) = alone
undisturbed alone (refresh_on_other ram picture) = alone
undisturbed alone (overwritten picture) = false

-- other memory has a wrong length
abbrev pub Lent : Sizes → Event → Type 0
Lent sizes (step s boot) = Unit {0}
Lent sizes refresh = Unit {0}
Lent sizes (step_on_other s ram boot) = ram_fits sizes (length ram) ≡ false
Lent sizes (refresh_on_other ram picture) = (ram_fits sizes (length ram) && picture_fits (length picture)) ≡ false
Lent sizes (overwritten picture) = Unit {0}

-- "From the start on and after each call, the RAM equals the slate's, a line is noted exactly if the slate marks it, and picture bytes
-- outside the shown lines stand as at the start", the last if nobody else has written on the picture.
pub record Agrees (alone : Bool) (first : List ℕ) (m : Machine) (r : Reference) : Type 0 where
  pub ram : m.ram ≡ r.ram
  pub dirty : (L : ℕ) → member m.board.dirty L ≡ r.dirty L
  pub size : alone ≡ true → length m.picture ≡ length first
  pub outside : alone ≡ true → (k : ℕ) → 90 * shown_count r.rate ≤ k → get_or m.picture k 0 ≡ get_or first k 0

-- what a refresh returns and leaves
pub record RefreshReturns (alone : Bool) (m : Machine) (r : Reference) : Type 0 where
  -- "the refusal number tabled below, or 0"
  pub refusal : (refresh_answer m.board m.ram m.picture).refusal ≡ refresh_refusal r (length m.picture)
  -- "the count is the number of marks before it", and 0 if it is refused
  pub count : (refresh_answer m.board m.ram m.picture).count ≡ cond (eqb (refresh_refusal r (length m.picture)) 0) (count_of r.dirty 0 256) 0
  -- "an accepted refresh writes each line marked before it as draw gives it, and no other byte"
  pub written : refresh_picture m.board m.ram m.picture
      ≡ cond (eqb (refresh_refusal r (length m.picture)) 0) (painted r.dirty (view_in r) m.picture) m.picture
  -- "After an accepted refresh each shown line is as draw gives it from the slate's RAM, F5, F6, F7 and rate", if nobody else has written
  pub shown : alone ≡ true → refresh_refusal r (length m.picture) ≡ 0 → (L : ℕ) → L < shown_count r.rate → (i : ℕ) → i < 90
      → get_or (refresh_picture m.board m.ram m.picture) (90 * L + i) 0 ≡ drawn (view_in r) L i

-- "Each call returns the refusal number tabled below, or 0": of a step 1 never, 2, 3 and 5 as the reference knows, then what only the
-- record knows. On other memory "2: a lent buffer has the wrong length": a count of 0, and no lent buffer is written to.
abbrev pub Returns : Bool → Machine → Reference → Event → Type 0
Returns alone m r (step s boot) =
    (step_answer m.board m.ram boot s).reply.refusal
    ≡ first_refusal (known_refusal r (length boot) s ∷ state_refusal m.board (length boot) s ∷ [])
Returns alone m r refresh = RefreshReturns alone m r
Returns alone m r (step_on_other s ram boot) = ((step_answer m.board ram boot s).reply.refusal ≡ 2) × (step_ram m.board ram boot s ≡ ram)
Returns alone m r (refresh_on_other ram picture) =
    ((refresh_answer m.board ram picture).refusal ≡ 2)
    × (((refresh_answer m.board ram picture).count ≡ 0) × (refresh_picture m.board ram picture ≡ picture))
Returns alone m r (overwritten picture) = Unit {0}

-- the claim about a list of events, from a machine and the reference beside it
abbrev pub Claims : Bool → List ℕ → Machine → Reference → List Event → Type 0
Claims alone first m r [] = Agrees alone first m r
Claims alone first m r (e ∷ es) =
    Agrees alone first m r
    × (Lent r.sizes e → Returns alone m r e × Claims (undisturbed alone e) first (next m e) (fed r (length m.picture) e) es)

-- the machine that a power-on gives, with any RAM and any picture
abbrev pub started : Sizes → ℕ → Paging → ℕ → ℕ → List ℕ → List ℕ → Machine
started sizes rate paging table top ram picture = record { board = (powered_on sizes rate paging table top).board; ram = ram; picture = picture }

-- "The list starts from an accepted power-on": the one claim about every list of calls
abbrev pub WholeRuns : Type 0
WholeRuns =
    (sizes : Sizes) (rate : ℕ) (paging : Paging) (table top : ℕ) (ram picture : List ℕ) (events : List Event)
    → ((powered_on sizes rate paging table top).refusal ≡ power_on_refusal sizes rate)
    × (power_on_refusal sizes rate ≡ 0
    → Claims true picture (started sizes rate paging table top ram picture) (reference.start sizes rate paging table top ram) events)

-- A record that was kept with its RAM may be gone on with at any time, by itself or as a copy, once a draw of it is accepted: the same claim
-- holds from there on, read against a reference that has what the record has.
abbrev pub mirror : Board → List ℕ → Reference
mirror b ram = record { sizes = b.sizes; rate = b.rate; paging = b.paging; video = b.video; ram = ram; dirty = member b.dirty }

abbrev pub resumed : Board → List ℕ → List ℕ → Machine
resumed b ram picture = record { board = b; ram = ram; picture = draw_picture b ram picture }

abbrev pub ResumedRuns : Type 0
ResumedRuns =
    (b : Board) (ram picture : List ℕ) (events : List Event)
    → Words b.dirty
    → (draw_answer b ram picture).refusal ≡ 0
    → Claims true (resumed b ram picture).picture (resumed b ram picture) (mirror b ram) events

-- What a doubter asks for: after each accepted refresh of a run that nobody else disturbed, the picture is, whole, what a full draw of that
-- moment would make of the picture at the start.
abbrev pub Redrawn : Bool → List ℕ → Machine → Event → Type 0
Redrawn alone first m (step s boot) = Unit {0}
Redrawn alone first m refresh =
    alone ≡ true
    → (refresh_answer m.board m.ram m.picture).refusal ≡ 0
    → refresh_picture m.board m.ram m.picture ≡ draw_picture m.board m.ram first
Redrawn alone first m (step_on_other s ram boot) = Unit {0}
Redrawn alone first m (refresh_on_other ram picture) = Unit {0}
Redrawn alone first m (overwritten picture) = Unit {0}

abbrev pub Pictures : Bool → List ℕ → Machine → List Event → Type 0
Pictures alone first m [] = Unit {0}
Pictures alone first m (e ∷ es) = Lent m.board.sizes e → Redrawn alone first m e × Pictures (undisturbed alone e) first (next m e) es

abbrev pub DrawnWhole : Type 0
DrawnWhole =
    (sizes : Sizes) (rate : ℕ) (paging : Paging) (table top : ℕ) (ram picture : List ℕ) (events : List Event)
    → power_on_refusal sizes rate ≡ 0
    → Pictures true picture (started sizes rate paging table top ram picture) events
