-- Which 16K block and place an access reaches: document 01, "Memory" and "Keyboard word", and Issue 9, section 8.
use Rattle.std.specs.Prelude.{ℕ, ◌+◌, ◌*◌, ◌/◌, ◌%◌, Bool, cond, ◌&&◌, eqb, ltb, get_or}
use Rattle.paging.specs.declared.Sizes.{Sizes}
use Rattle.paging.specs.declared.Paging.{Paging}
use Rattle.paging.specs.declared.Reach.{Reach}
use Rattle.paging.specs.Maps.{map_read, map_write}

-- "Bank = address / 16,384; place = address mod 16,384."
unfoldable pub bank_of : ℕ → ℕ
bank_of address = address / 16384

unfoldable pub place_of : ℕ → ℕ
place_of address = address % 16384

-- "Lock bits: D7 bank C000h, D6 0000h, D5 8000h, D4 4000h": the weight of a bank's bit
unfoldable pub lock_weight : ℕ → ℕ
lock_weight bank = cond (eqb bank 0) 64 (cond (eqb bank 1) 16 (cond (eqb bank 2) 32 128))

-- whether a bank's lock bit is set; a number over 3 is no bank and is never locked
unfoldable pub locked : ℕ → ℕ → Bool
locked lock bank = ltb bank 4 && eqb (lock / lock_weight bank % 2) 1

-- the block that a write and a read of an address reach
unfoldable pub write_block : Sizes → Paging → ℕ → ℕ
write_block s p address = map_write s (get_or p.maps (bank_of address) 0)

unfoldable pub read_block : Sizes → Paging → ℕ → ℕ
read_block s p address = map_read s (locked p.lock (bank_of address)) (get_or p.maps (bank_of address) 0)

-- both, and the place
unfoldable pub reach_of : Sizes → Paging → ℕ → Reach
reach_of s p address = record { read = read_block s p address; write = write_block s p address; place = place_of address }

-- a block and a place as an index into the RAM
abbrev pub index_of : ℕ → ℕ → ℕ
index_of block place = block * 16384 + place

unfoldable pub write_index : Sizes → Paging → ℕ → ℕ
write_index s p address = index_of (write_block s p address) (place_of address)

unfoldable pub read_index : Sizes → Paging → ℕ → ℕ
read_index s p address = index_of (read_block s p address) (place_of address)

-- "Stores its value at block 3, place 3FF0h + offset"
unfoldable pub keyboard_index : ℕ → ℕ
keyboard_index offset = index_of 3 (0x3FF0 + offset)
