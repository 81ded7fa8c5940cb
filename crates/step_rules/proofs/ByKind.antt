-- What every rule of a step's kind gives has a property that each of them has.
-- Assumes nothing.
use Prim.Native.Nat.{ℕ}
use mathlib.Core.Bool.{Bool}
use Rattle.step_rules.specs.declared.Step.{Step}
use Rattle.step_rules.specs.declared.Step.TheVariants.{Fetch, Read, Write, PortIn, PortOut, Scan, Key, DiscLine, ExternalLine}
use Rattle.step_rules.specs.Kinds.{by_kind, on_in, on_out, on_scan, on_key, on_disc, on_external}

by_kind_lem : {A : Type 0} (P : A → Type 0) (s : Step) {f r : ℕ → A} {w : ℕ → ℕ → A} {i : ℕ → A} {o : ℕ → ℕ → A} {c : A} {k : ℕ → ℕ → A} {d e : Bool → A}
    → ((a : ℕ) → P (f a))
    → ((a : ℕ) → P (r a))
    → ((a v : ℕ) → P (w a v))
    → ((p : ℕ) → P (i p))
    → ((p v : ℕ) → P (o p v))
    → P c
    → ((n v : ℕ) → P (k n v))
    → ((b : Bool) → P (d b))
    → ((b : Bool) → P (e b))
    → P (by_kind s f r w i o c k d e)
by_kind_lem P (Fetch address) f r w i o c k d e = f address
by_kind_lem P (Read address) f r w i o c k d e = r address
by_kind_lem P (Write address value) f r w i o c k d e = w address value
by_kind_lem P (PortIn port) f r w i o c k d e = i port
by_kind_lem P (PortOut port value) f r w i o c k d e = o port value
by_kind_lem P Scan f r w i o c k d e = c
by_kind_lem P (Key offset value) f r w i o c k d e = k offset value
by_kind_lem P (DiscLine on) f r w i o c k d e = d on
by_kind_lem P (ExternalLine on) f r w i o c k d e = e on

module _ {A : Type 0} (P : A → Type 0) (s : Step) {x : A} where
  pub on_in_lem : {rule : ℕ → A} → ((p : ℕ) → P (rule p)) → P x → P (on_in s rule x)
  on_in_lem h l = by_kind_lem P s (λ a. l) (λ a. l) (λ a v. l) h (λ p v. l) l (λ n v. l) (λ b. l) (λ b. l)

  pub on_out_lem : {rule : ℕ → ℕ → A} → ((p v : ℕ) → P (rule p v)) → P x → P (on_out s rule x)
  on_out_lem h l = by_kind_lem P s (λ a. l) (λ a. l) (λ a v. l) (λ p. l) h l (λ n v. l) (λ b. l) (λ b. l)

  pub on_key_lem : {rule : ℕ → ℕ → A} → ((n v : ℕ) → P (rule n v)) → P x → P (on_key s rule x)
  on_key_lem h l = by_kind_lem P s (λ a. l) (λ a. l) (λ a v. l) (λ p. l) (λ p v. l) l h (λ b. l) (λ b. l)

  pub on_scan_lem : {y : A} → P y → P x → P (on_scan s y x)
  on_scan_lem h l = by_kind_lem P s (λ a. l) (λ a. l) (λ a v. l) (λ p. l) (λ p v. l) h (λ n v. l) (λ b. l) (λ b. l)

  pub on_disc_lem : {rule : Bool → A} → ((b : Bool) → P (rule b)) → P x → P (on_disc s rule x)
  on_disc_lem h l = by_kind_lem P s (λ a. l) (λ a. l) (λ a v. l) (λ p. l) (λ p v. l) l (λ n v. l) h (λ b. l)

  pub on_external_lem : {rule : Bool → A} → ((b : Bool) → P (rule b)) → P x → P (on_external s rule x)
  on_external_lem h l = by_kind_lem P s (λ a. l) (λ a. l) (λ a v. l) (λ p. l) (λ p v. l) l (λ n v. l) (λ b. l) h
