-- Scan line pointers: document 01, "Scan lines", and Issue 9, section 7.2.
use Rattle.std.specs.Prelude.{ℕ, ◌+◌, ◌*◌, ◌/◌, ◌%◌, cond, ◌||◌, List, eqb, ltb, get_or}
use Rattle.paging.specs.Memory.{index_of}
use Rattle.scanline.specs.declared.Pointer.{Pointer}

-- "F5: table in block F5 / 32 at place 512 x (F5 mod 32)."
unfoldable pub table_index : ℕ → ℕ
table_index table = index_of (table / 32) (512 * (table % 32))

-- "Line L uses entry (F6 + L) mod 256: two bytes"
unfoldable pub entry_of : ℕ → ℕ → ℕ
entry_of top line = (top + line) % 256

unfoldable pub entry_index : ℕ → ℕ → ℕ → ℕ
entry_index table top line = table_index table + 2 * entry_of top line

-- "low first, a word w"
unfoldable pub pointer_word : List ℕ → ℕ → ℕ → ℕ → ℕ
pointer_word ram table top line = get_or ram (entry_index table top line) 0 + 256 * get_or ram (entry_index table top line + 1) 0

-- "Block = w / 8,192; v = w mod 8,192; start = 16 x (v / 8) + v mod 8."
unfoldable pub pointer_of : ℕ → Pointer
pointer_of w = record { block = w / 8192; start = 16 * (w % 8192 / 8) + w % 8192 % 8 }

-- "Pointer block over 7, start over 16,383 or start's bit 3 set" is refused with 3
unfoldable pub pointer_refusal : Pointer → ℕ
pointer_refusal p = cond (ltb 7 p.block || (ltb 16383 p.start || eqb (p.start / 8 % 2) 1)) 3 0

-- "making takes them back to w"; a refused pointer's word is 0
unfoldable pub word_of : Pointer → ℕ
word_of p = p.block * 8192 + (p.start / 16 * 8 + p.start % 8)

pub record MadePointer : Type 0 where
  pub word : ℕ
  pub refusal : ℕ

unfoldable pub made_pointer : Pointer → MadePointer
made_pointer p = record { word = cond (eqb (pointer_refusal p) 0) (word_of p) 0; refusal = pointer_refusal p }
