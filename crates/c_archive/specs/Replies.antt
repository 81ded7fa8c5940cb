-- What the C functions give for archives: results packed in one number.
use Rattle.std.specs.Prelude.{ℕ, ◌+◌, ◌*◌, cond, eqb, Option, None, Some}
use Rattle.archive.specs.Answers.{Counted, EntryRead, Found}
use Rattle.archive_add.specs.Adding.{Written}

-- a reply: bits 0 to 31 a number, 32 to 39 the refusal, 40 on the rest
unfoldable pub reply : ℕ → ℕ → ℕ → ℕ
reply number refusal more = number + (4294967296 * refusal + 1099511627776 * more)

-- of a start or an add: the length
unfoldable pub written_reply : Written → ℕ
written_reply w = reply w.length w.refusal 0

unfoldable pub count_reply : Counted → ℕ
count_reply c = reply c.count c.refusal 0

-- of an entry or a read: the number; the bench from bit 40 on; bits 56 and 57 are 1 for 200 shown lines and 2 for 256
unfoldable pub shown_code : ℕ → ℕ
shown_code shown = cond (eqb shown 256) 2 (cond (eqb shown 200) 1 0)

unfoldable pub entry_reply : EntryRead → ℕ
entry_reply e = reply e.entry.number e.refusal (e.entry.bench + 65536 * shown_code e.entry.shown)

-- of a find: the index, and bit 20 for found
unfoldable pub index_reply : Option ℕ → ℕ → ℕ
index_reply (Some k) refusal = reply (k + 1048576) refusal 0
index_reply None refusal = reply 0 refusal 0

unfoldable pub find_reply : Found → ℕ
find_reply f = index_reply f.index f.refusal
