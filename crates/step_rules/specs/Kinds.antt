-- Rules by the kind of a step: document 01, "Steps".
use Rattle.std.specs.Prelude.{ℕ, Bool}
use Rattle.step_rules.specs.declared.Step.{Step}
use Rattle.step_rules.specs.declared.Step.TheVariants.{Fetch, Read, Write, PortIn, PortOut, Scan, Key, DiscLine, ExternalLine}

-- "Fetch, data read, data write, channel in, channel out, scan, keyboard word (offset 0 to 15, value), disc line on/off, external line
-- on/off": a rule for each kind, of its plain arguments
abbrev pub by_kind : {A : Type 0} → Step → (ℕ → A) → (ℕ → A) → (ℕ → ℕ → A) → (ℕ → A) → (ℕ → ℕ → A) → A → (ℕ → ℕ → A) → (Bool → A) → (Bool → A) → A
by_kind (Fetch address) fetch read write port_in port_out scan key disc external = fetch address
by_kind (Read address) fetch read write port_in port_out scan key disc external = read address
by_kind (Write address value) fetch read write port_in port_out scan key disc external = write address value
by_kind (PortIn port) fetch read write port_in port_out scan key disc external = port_in port
by_kind (PortOut port value) fetch read write port_in port_out scan key disc external = port_out port value
by_kind Scan fetch read write port_in port_out scan key disc external = scan
by_kind (Key offset value) fetch read write port_in port_out scan key disc external = key offset value
by_kind (DiscLine on) fetch read write port_in port_out scan key disc external = disc on
by_kind (ExternalLine on) fetch read write port_in port_out scan key disc external = external on

-- a rule for one kind; of every other it gives x
abbrev pub on_fetch : {A : Type 0} → Step → (ℕ → A) → A → A
on_fetch s rule x = by_kind s rule (λ a. x) (λ a v. x) (λ p. x) (λ p v. x) x (λ o v. x) (λ b. x) (λ b. x)

abbrev pub on_read : {A : Type 0} → Step → (ℕ → A) → A → A
on_read s rule x = by_kind s (λ a. x) rule (λ a v. x) (λ p. x) (λ p v. x) x (λ o v. x) (λ b. x) (λ b. x)

abbrev pub on_write : {A : Type 0} → Step → (ℕ → ℕ → A) → A → A
on_write s rule x = by_kind s (λ a. x) (λ a. x) rule (λ p. x) (λ p v. x) x (λ o v. x) (λ b. x) (λ b. x)

abbrev pub on_in : {A : Type 0} → Step → (ℕ → A) → A → A
on_in s rule x = by_kind s (λ a. x) (λ a. x) (λ a v. x) rule (λ p v. x) x (λ o v. x) (λ b. x) (λ b. x)

abbrev pub on_out : {A : Type 0} → Step → (ℕ → ℕ → A) → A → A
on_out s rule x = by_kind s (λ a. x) (λ a. x) (λ a v. x) (λ p. x) rule x (λ o v. x) (λ b. x) (λ b. x)

abbrev pub on_scan : {A : Type 0} → Step → A → A → A
on_scan s y x = by_kind s (λ a. x) (λ a. x) (λ a v. x) (λ p. x) (λ p v. x) y (λ o v. x) (λ b. x) (λ b. x)

abbrev pub on_key : {A : Type 0} → Step → (ℕ → ℕ → A) → A → A
on_key s rule x = by_kind s (λ a. x) (λ a. x) (λ a v. x) (λ p. x) (λ p v. x) x rule (λ b. x) (λ b. x)

abbrev pub on_disc : {A : Type 0} → Step → (Bool → A) → A → A
on_disc s rule x = by_kind s (λ a. x) (λ a. x) (λ a v. x) (λ p. x) (λ p v. x) x (λ o v. x) rule (λ b. x)

abbrev pub on_external : {A : Type 0} → Step → (Bool → A) → A → A
on_external s rule x = by_kind s (λ a. x) (λ a. x) (λ a v. x) (λ p. x) (λ p v. x) x (λ o v. x) (λ b. x) rule
