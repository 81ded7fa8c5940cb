-- A result that may be a refusal, packed.
-- Assumes nothing.
use Prim.Native.Nat.{ℕ, ◌/◌, ◌%◌}
use mathlib.Core.Path.{◌≡◌, refl, ◌∙◌, subst}
use mathlib.Core.Bool.{Bool, true, false, cond, ◌||◌}
use borrow.Author.Tests.{eqb-true, eqb-false}
use lib.Dec.{eqb, ltb}
use Rattle.std.specs.Prelude.{Result, Ok, Err, MatchResult}
use Rattle.refusal.specs.declared.Refusal.{Refusal}
use Rattle.refusal.specs.Numbers.{number, named, answered}
use Rattle.facts.proofs.Bools.{cond_kept}
use Rattle.scanline.specs.declared.Pointer.{Pointer}
use Rattle.scanline.specs.Pointers.{pointer_refusal, made_pointer}
use Rattle.c_numbers.specs.Packing.{reply, made_pointer_reply}

-- a number that, if it refuses, is that of the refusal it names
unfoldable pub Known : ℕ → Type 0
Known n = (n ≡ 0 → ⊥) → number (named n) ≡ n

module _ {A : Type 0} (accept : A → ℕ) (word : ℕ) where
  -- the word is that of what was accepted, or of the refusal
  abbrev pub Packs : Result A Refusal → Type 0
  Packs r = MatchResult r (λ x. word ≡ accept x) (λ e. word ≡ reply 0 0 (number e) 0)

  pub packed : (n : ℕ) (x : A) → Known n → Packs (answered n x) → word ≡ cond (eqb n 0) (accept x) (reply 0 0 n 0)
  unfolding answered Known
  packed n x k h = go (eqb n 0) refl h
    where
      go : (t : Bool) → eqb n 0 ≡ t → Packs (cond t (Ok x) (Err (named n))) → word ≡ cond t (accept x) (reply 0 0 n 0)
      go true f h = h
      go false f h = h ∙ rw (k (eqb-false n 0 f))

made_known : (p : Pointer) → Known (made_pointer p).refusal
unfolding Known named number made_pointer pointer_refusal
made_known p =
    let none : Known 0 = λ ne. absurd (ne refl) in
    let three : Known 3 = λ ne. refl in
    cond_kept Known (ltb 7 p.block || (ltb 16383 p.start || eqb (p.start / 8 % 2) 1)) three none

-- a pointer word made
pub made_packed : (p : Pointer) (word : ℕ) (r : Result ℕ Refusal) → r ≡ answered (made_pointer p).refusal (made_pointer p).word
    → Packs (λ (w : ℕ). reply w 0 0 0) word r → word ≡ made_pointer_reply (made_pointer p)
unfolding made_pointer_reply made_pointer
made_packed p word r e h =
    packed (λ (w : ℕ). reply w 0 0 0) word (made_pointer p).refusal (made_pointer p).word (made_known p)
    (subst (λ (x : Result ℕ Refusal). Packs (λ (w : ℕ). reply w 0 0 0) word x) e h)
    ∙ go (eqb (made_pointer p).refusal 0) refl
  where
    go : (t : Bool) → eqb (made_pointer p).refusal 0 ≡ t
        → cond t (reply (made_pointer p).word 0 0 0) (reply 0 0 (made_pointer p).refusal 0) ≡ reply (made_pointer p).word 0 (made_pointer p).refusal 0
    go true f = rw (eqb-true (made_pointer p).refusal 0 f)
    go false f = rw f
