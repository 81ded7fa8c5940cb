-- What a host may do itself in place of a step: read the lent RAM, and store past standard RAM. Each is a claim about `step_answer` and
-- `step_ram`; the laws are in proofs/ShortCuts.antt, and docs/WIRING.md says how a host uses them.
use Rattle.std.specs.Prelude.{ℕ, ◌*◌, ◌≤◌, ◌<◌, ◌≡◌, Bool, false, ◌&&◌, List, eqb, leb, get_or, set, length}
use Rattle.lineset.proofs.Sets.{Words}
use Rattle.paging.specs.declared.Sizes.{Sizes}
use Rattle.paging.specs.declared.Paging.{Paging}
use Rattle.paging.specs.Memory.{bank_of, place_of, index_of, read_block, write_block, read_index, write_index}
use Rattle.board.specs.declared.record.Board.{Board}
use Rattle.step_rules.specs.declared.Step.{Step}
use Rattle.step_rules.specs.declared.Step.TheVariants.{Fetch, Read, Write}
use Rattle.step_rules.specs.Kinds.{on_out}
use Rattle.step_rules.specs.Answers.{Answer, lent_refusal, int_line, step_answer, step_ram}

-- an answer that gives a byte and nothing else: the record given, INT as the record has it, accepted
abbrev pub only_byte : Board → ℕ → Answer
only_byte b byte = record { board = b; reply = record { byte = byte; int = int_line b; nmi = false; forwarded = false; refusal = 0 } }

-- a record as its types have it (four words of dirty lines, F5 a byte), found good, with RAM and stream of a right length
pub record Ready (b : Board) (ram boot : List ℕ) : Type 0 where
  pub words : Words b.dirty
  pub table : b.video.table < 256
  pub lent : lent_refusal b (length ram) (length boot) ≡ 0

-- A data read gives the RAM's byte and does nothing else; so does a fetch out of boot mode.
abbrev pub ReadsDirectly : Type 0
ReadsDirectly =
    (b : Board) (ram boot : List ℕ) (address : ℕ)
    → Ready b ram boot
    → (step_answer b ram boot (Read address) ≡ only_byte b (get_or ram (read_index b.sizes b.paging address) 0))
    × (step_ram b ram boot (Read address) ≡ ram)

abbrev pub FetchesDirectly : Type 0
FetchesDirectly =
    (b : Board) (ram boot : List ℕ) (address : ℕ)
    → Ready b ram boot
    → b.boot.mode ≡ 0
    → (step_answer b ram boot (Fetch address) ≡ only_byte b (get_or ram (read_index b.sizes b.paging address) 0))
    × (step_ram b ram boot (Fetch address) ≡ ram)

-- A data write to block 8 and above stores its byte and does nothing else.
abbrev pub StoresDirectly : Type 0
StoresDirectly =
    (b : Board) (ram boot : List ℕ) (address value : ℕ)
    → Ready b ram boot
    → 8 ≤ write_block b.sizes b.paging address
    → (step_answer b ram boot (Write address value) ≡ only_byte b 0)
    × (step_ram b ram boot (Write address value) ≡ set ram (write_index b.sizes b.paging address) value)

-- The blocks of a bank's first address are those of the whole bank, so a host may keep four of each.
abbrev pub BanksWhole : Type 0
BanksWhole =
    (s : Sizes) (p : Paging) (address : ℕ)
    → (read_index s p address ≡ index_of (read_block s p (16384 * bank_of address)) (place_of address))
    × (write_index s p address ≡ index_of (write_block s p (16384 * bank_of address)) (place_of address))

-- They stand until the next port out to F0 to F4, and boot mode until the next one to F8.
abbrev pub writes_maps : Step → Bool
writes_maps s = on_out s (λ port value. leb 0xF0 port && leb port 0xF4) false

abbrev pub commands : Step → Bool
commands s = on_out s (λ port value. eqb port 0xF8) false

abbrev pub MapsStand : Type 0
MapsStand =
    (b : Board) (ram boot : List ℕ) (s : Step)
    → writes_maps s ≡ false
    → ((step_answer b ram boot s).board.sizes ≡ b.sizes) × ((step_answer b ram boot s).board.paging ≡ b.paging)

abbrev pub BootStands : Type 0
BootStands = (b : Board) (ram boot : List ℕ) (s : Step) → commands s ≡ false → (step_answer b ram boot s).board.boot.mode ≡ b.boot.mode

-- The INT line of a reply is that of the record handed on, so the latest reply's stands while a host does without steps.
abbrev pub LineStands : Type 0
LineStands =
    (b : Board) (ram boot : List ℕ) (s : Step)
    → lent_refusal b (length ram) (length boot) ≡ 0
    → (step_answer b ram boot s).reply.int ≡ int_line (step_answer b ram boot s).board
