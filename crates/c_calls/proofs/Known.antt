-- Each number that a call is refused with is that of the refusal it names.
-- Assumes nothing.
use Prim.Native.Nat.{ℕ}
use mathlib.Core.Path.{refl}
use mathlib.Core.Bool.{◌&&◌}
use mathlib.Core.List.{[], ◌∷◌}
use lib.Dec.{eqb, leb}
use Rattle.refusal.specs.Numbers.{number, named}
use Rattle.facts.proofs.Bools.{cond_kept}
use Rattle.paging.specs.declared.Sizes.{Sizes}
use Rattle.paging.specs.Maps.{allowed, ram_fits}
use Rattle.scanline.specs.Drawing.{picture_fits}
use Rattle.board.specs.declared.record.Board.{Board}
use Rattle.board.specs.Record.{good, good_rate, record_refusal, first_refusal}
use Rattle.board.proofs.Refusals.{first_two}
use Rattle.board_power.specs.Power.{power_on_refusal}
use Rattle.picture.specs.Pictures.{picture_length_refusal, picture_refusal, next_refusal}
use Rattle.c_numbers.proofs.Packed.{Known}

none : Known 0
unfolding Known
none = λ ne. absurd (ne refl)

pub two : Known 2
unfolding Known number named
two = λ ne. refl

-- of two, the first that applies
first : (m n : ℕ) → Known m → Known n → Known (first_refusal (m ∷ n ∷ []))
first m n p q = rw (first_two m n) (cond_kept Known (eqb m 0) q p)

record_known : (b : Board) → Known (record_refusal b)
unfolding Known number named record_refusal
record_known b = let one : Known 1 = λ ne. refl in cond_kept Known (good b) none one

pub picture_known : (b : Board) (ram picture : ℕ) → Known (picture_refusal b ram picture)
unfolding picture_refusal picture_length_refusal
picture_known b ram picture =
    first (record_refusal b) (picture_length_refusal b.sizes ram picture) (record_known b)
    (cond_kept Known (ram_fits b.sizes ram && picture_fits picture) none two)

pub next_known : (b : Board) (n : ℕ) → Known (next_refusal b n)
unfolding Known number named next_refusal
next_known b n = let three : Known 3 = λ ne. refl in first (record_refusal b) _ (record_known b) (cond_kept Known (leb n 255) none three)

pub power_on_known : (sizes : Sizes) (rate : ℕ) → Known (power_on_refusal sizes rate)
unfolding Known number named power_on_refusal
power_on_known sizes rate = let six : Known 6 = λ ne. refl in cond_kept Known (allowed sizes && good_rate rate) none six
