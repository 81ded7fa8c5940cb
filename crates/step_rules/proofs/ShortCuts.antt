-- What a host may do itself in place of a step.
-- Assumes nothing.
use Prim.Native.Nat.{ℕ, ◌*◌, ◌/◌, ◌≤◌}
use native.Mathlib.Omega.{arith}
use mathlib.Core.Path.{◌≡◌, refl, sym, ◌∙◌, ap}
use mathlib.Core.Bool.{Bool, true, false, cond, not, ◌&&◌, ◌||◌, true≢false}
use mathlib.Core.List.{List}
use borrow.Author.Tests.{ne_eqb, eqb-true, leb-false, lt-leb}
use lib.Dec.{eqb, leb}
use lib.ListN.{get_or, length}
use Rattle.lineset.specs.declared.LineSet.{LineSet}
use Rattle.paging.specs.declared.Paging.{Paging}
use Rattle.paging.specs.Memory.{bank_of, place_of, index_of, read_block, write_block, read_index, write_index}
use Rattle.board.specs.declared.record.Board.{Board}
use Rattle.board.specs.declared.record.Boot.{Boot}
use Rattle.board.specs.Record.{first_refusal, view_of, with_dirty}
use Rattle.board.specs.Registers.{paging_out}
use Rattle.board.proofs.Dirty.{store_past}
use Rattle.board.proofs.Good.{good_nmi}
use Rattle.step_rules.specs.declared.Step.{Step}
use Rattle.step_rules.specs.declared.Step.TheVariants.{Fetch, Read, Write, PortIn, PortOut, Scan, Key, DiscLine, ExternalLine}
use Rattle.step_rules.specs.After.{paging_after, boot_after, ram_after, parts_after, board_after}
use Rattle.step_rules.specs.Answers.{kind_refusal, stream_ended, state_refusal, own_refusal, fetched_byte, step_outcome, int_line, nmi_line, nmi_shown, accepted_answer, refused_answer, step_refusal, step_answer, step_ram, giving}
use Rattle.step_rules.specs.ShortCuts.{only_byte, Ready, ReadsDirectly, FetchesDirectly, StoresDirectly, BanksWhole, writes_maps, commands, MapsStand, BootStands, LineStands}
use Rattle.step_rules.proofs.After.{after_step}
use Rattle.step_rules.proofs.Answers.{lent_good, own_ram, own_other, own_first, step_own_ram, plain}
use Rattle.step_rules.proofs.Good.{step_sizes}

-- a good record that is answered with shows no NMI, and stays
shown_byte : (b : Board) (byte : ℕ) → (eqb b.disc.route 1 && eqb b.disc.line 1) ≡ false → accepted_answer b (giving byte) ≡ only_byte b byte
unfolding accepted_answer nmi_shown nmi_line
shown_byte b byte e = rw e

-- an accepted step that leaves the record
module _ (b : Board) (ram boot : List ℕ) (r : Ready b ram boot) (s : Step) (byte : ℕ) where
  still : own_refusal b (length boot) s ≡ 0 → board_after b ram s ≡ b → step_outcome b ram boot s ≡ giving byte → step_answer b ram boot s ≡ only_byte b byte
  unfolding step_answer
  still e k o =
      rw (own_first b ram boot s r.lent ∙ e, k, o) (shown_byte b byte (good_nmi b (lent_good b (length ram) (length boot) r.lent)))

  left : own_refusal b (length boot) s ≡ 0 → step_ram b ram boot s ≡ ram_after b.sizes b.paging ram s
  left e = sym (own_ram b ram boot s e ∙ step_own_ram b ram boot s r.lent)

pub reads_directly : ReadsDirectly
unfolding own_refusal kind_refusal state_refusal stream_ended first_refusal step_outcome
reads_directly b ram boot address r =
    let s = Read address in (
      still b ram boot r s _ refl (plain b ram boot s refl refl r.words) refl,
      left b ram boot r s 0 refl,
    )

-- out of boot mode a fetch is not refused, takes the RAM's byte and leaves the stream's place
module _ (b : Board) (ram boot : List ℕ) (address : ℕ) (e : b.boot.mode ≡ 0) where
  fetch_own : own_refusal b (length boot) (Fetch address) ≡ 0
  unfolding own_refusal kind_refusal state_refusal stream_ended first_refusal
  fetch_own = rw e

  fetch_parts : parts_after b (Fetch address) ≡ b
  fetch_parts = rw e

  fetch_byte : step_outcome b ram boot (Fetch address) ≡ giving (get_or ram (read_index b.sizes b.paging address) 0)
  unfolding step_outcome fetched_byte
  fetch_byte = rw e

pub fetches_directly : FetchesDirectly
fetches_directly b ram boot address r e =
    let s = Fetch address in
    let own = fetch_own b ram boot address e in (
      still b ram boot r s _ own (plain b ram boot s refl refl r.words ∙ fetch_parts b ram boot address e) (fetch_byte b ram boot address e),
      left b ram boot r s 0 own,
    )

pub stores_directly : StoresDirectly
unfolding own_refusal kind_refusal state_refusal stream_ended first_refusal step_outcome board_after write_index
stores_directly b ram boot address value r h =
    let s = Write address value in
    let at : 131072 ≤ index_of (write_block b.sizes b.paging address) (place_of address) = omega (arith, h) in (
      still b ram boot r s 0 refl
          (ap (λ (d : LineSet). with_dirty b d) (store_past b.dirty b.rate (view_of b ram) (write_index b.sizes b.paging address) value r.words r.table at))
          refl,
      left b ram boot r s 0 refl,
    )

pub banks_whole : BanksWhole
unfolding read_index write_index read_block write_block bank_of
banks_whole s p address = let e : 16384 * (address / 16384) / 16384 ≡ address / 16384 = omega arith in (rw e, rw e)

-- F0 to F4 alone are written to the maps and the lock
paging_kept : (p : Paging) (port value : ℕ) → (leb 0xF0 port && leb port 0xF4) ≡ false → paging_out p port value ≡ p
unfolding paging_out
paging_kept p port value e = go (leb 0xF0 port) refl (leb port 0xF4) refl e
  where
    unwritten : (leb 0xF0 port && leb port 0xF3) ≡ false → (port ≡ 0xF4 → ⊥) → paging_out p port value ≡ p
    unwritten m f4 = rw (m, ne_eqb port 0xF4 f4)

    go : (t : Bool) → leb 0xF0 port ≡ t → (u : Bool) → leb port 0xF4 ≡ u → (t && u) ≡ false → paging_out p port value ≡ p
    go false f u g h = let l = leb-false 0xF0 port f in unwritten (rw f) (λ (z : port ≡ 0xF4). omega arith)
    go true f true g h = absurd (true≢false h)
    go true f false g h = let l = leb-false port 0xF4 g in unwritten (rw (f, lt-leb port 0xF3 (omega arith))) (λ (z : port ≡ 0xF4). omega arith)

maps_kept : (p : Paging) (s : Step) → writes_maps s ≡ false → paging_after p s ≡ p
maps_kept p (PortOut port value) e = paging_kept p port value e
maps_kept p (Fetch address) e = refl
maps_kept p (Read address) e = refl
maps_kept p (Write address value) e = refl
maps_kept p (PortIn port) e = refl
maps_kept p Scan e = refl
maps_kept p (Key offset value) e = refl
maps_kept p (DiscLine on) e = refl
maps_kept p (ExternalLine on) e = refl

pub maps_stand : MapsStand
unfolding nmi_shown board_after
maps_stand b ram boot s e = (
  step_sizes b ram boot s,
  after_step b ram boot s (λ (c : Board) (x : List ℕ). c.paging ≡ b.paging) (λ a. maps_kept b.paging s e) (λ ne. refl),
)

boot_kept : (x : Boot) (s : Step) → commands s ≡ false → (boot_after x s).mode ≡ x.mode
boot_kept x (PortOut port value) e = rw e
boot_kept x (Fetch address) e = refl
boot_kept x (Read address) e = refl
boot_kept x (Write address value) e = refl
boot_kept x (PortIn port) e = refl
boot_kept x Scan e = refl
boot_kept x (Key offset value) e = refl
boot_kept x (DiscLine on) e = refl
boot_kept x (ExternalLine on) e = refl

pub boot_stands : BootStands
unfolding nmi_shown board_after
boot_stands b ram boot s e = after_step b ram boot s (λ (c : Board) (x : List ℕ). c.boot.mode ≡ b.boot.mode) (λ a. boot_kept b.boot s e) (λ ne. refl)

-- what NMI takes away does not matter for INT, which asks for route INT
int_shown : (b : Board) → int_line (nmi_shown b) ≡ int_line b
unfolding int_line nmi_shown nmi_line
int_shown b =
    ap (λ (t : Bool). not (eqb b.clock.counter 0) || (eqb b.external 1 || t)) (go (eqb b.disc.route 1) refl (eqb b.disc.line 1))
  where
    go : (q : Bool) → eqb b.disc.route 1 ≡ q → (l : Bool) → (l && eqb (cond (q && l) 0 b.disc.route) 2) ≡ (l && eqb b.disc.route 2)
    go true e true = rw (eqb-true b.disc.route 1 e)
    go true e false = refl
    go false e l = refl

pub line_stands : LineStands
unfolding step_answer accepted_answer refused_answer
line_stands b ram boot s l = go (eqb (step_refusal b ram boot s) 0)
  where
    go : (t : Bool)
        → (cond t (accepted_answer (board_after b ram s) (step_outcome b ram boot s)) (refused_answer b (step_refusal b ram boot s))).reply.int
        ≡ int_line (cond t (accepted_answer (board_after b ram s) (step_outcome b ram boot s)) (refused_answer b (step_refusal b ram boot s))).board
    go true = sym (int_shown (board_after b ram s))
    go false = rw (own_other b ram boot s l)
