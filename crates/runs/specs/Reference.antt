-- The reference (document 01: the slate) that whole runs are read against. It is fed the power-on values, the starting RAM, and each call's
-- kind, plain arguments and lengths of lent buffers; nothing from the record, and nothing that a call returned.
use Rattle.std.specs.Prelude.{ℕ, Bool, false, cond, ◌||◌, List, [], ◌∷◌, eqb, length}
use Rattle.lineset.specs.Lines.{is_shown}
use Rattle.paging.specs.declared.Sizes.{Sizes}
use Rattle.paging.specs.declared.Paging.{Paging}
use Rattle.scanline.specs.declared.Video.{Video}
use Rattle.scanline.specs.Drawing.{View}
use Rattle.board.specs.Dirty.{marked}
use Rattle.board.specs.Record.{first_refusal}
use Rattle.step_rules.specs.declared.Step.{Step}
use Rattle.step_rules.specs.After.{paging_after, video_after, ram_after}
use Rattle.step_rules.specs.Answers.{length_refusal, kind_refusal}
use Rattle.picture.specs.Pictures.{picture_length_refusal}

-- "It keeps sizes, rate, bytes F0 to F7, a RAM of its own and a mark for each shown line": the lines marked are its dirty lines.
pub record Reference : Type 0 where
  pub sizes : Sizes
  pub rate : ℕ
  pub paging : Paging
  pub video : Video
  pub ram : List ℕ
  pub dirty : ℕ → Bool

abbrev pub view_in : Reference → View
view_in r = record { video = r.video; ram = r.ram }

-- "It starts with F7 = 0, the rest as fed, all shown lines marked."
abbrev pub start : Sizes → ℕ → Paging → ℕ → ℕ → List ℕ → Reference
start sizes rate paging table top ram = record {
  sizes = sizes;
  rate = rate;
  paging = paging;
  video = record { table = table; top = top; control = 0 };
  ram = ram;
  dirty = is_shown rate;
}

-- "A call the table below refuses changes nothing: 2, 3 and 5 follow from what the slate has, 1 can't come up, and 4 meets only fetches,
-- which change nothing here anyway."
unfoldable pub known_refusal : Reference → ℕ → Step → ℕ
known_refusal r boot_length s = first_refusal (length_refusal r.sizes (length r.ram) boot_length ∷ kind_refusal s ∷ [])

-- "Channel out to F0 to F7 replaces that byte; to F8 with value mod 16 = 1 it sets F7 to 0. A data write stores its value at the write
-- block and place .. A keyboard word stores at block 3 .. Other steps change nothing. Each accepted step also marks every shown line for
-- which one of the four differences above holds between the slate before and after it."
unfoldable pub after : Reference → Step → Reference
after r s =
    let v = video_after r.video s in
    let x = ram_after r.sizes r.paging r.ram s in
    record {
      sizes = r.sizes;
      rate = r.rate;
      paging = paging_after r.paging s;
      video = v;
      ram = x;
      dirty = λ (L : ℕ). r.dirty L || marked r.rate (view_in r) (record { video = v; ram = x }) L;
    }

unfoldable pub step : Reference → ℕ → Step → Reference
step r boot_length s = cond (eqb (known_refusal r boot_length s) 0) (after r s) r

-- "An accepted refresh removes all marks."
unfoldable pub refresh_refusal : Reference → ℕ → ℕ
refresh_refusal r picture_length = picture_length_refusal r.sizes (length r.ram) picture_length

unfoldable pub refresh : Reference → ℕ → Reference
refresh r picture_length =
    cond (eqb (refresh_refusal r picture_length) 0)
    (record { sizes = r.sizes; rate = r.rate; paging = r.paging; video = r.video; ram = r.ram; dirty = λ (L : ℕ). false }) r
