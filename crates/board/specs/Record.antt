-- The board's record: when it is good, and what it shows. Document 01, "What the box holds" and "Refusal numbers".
use Rattle.std.specs.Prelude.{ℕ, Bool, cond, not, ◌&&◌, ◌||◌, List, [], ◌∷◌, eqb, ltb, leb}
use Rattle.lineset.specs.declared.LineSet.{LineSet}
use Rattle.lineset.specs.Lines.{inside, shown_set}
use Rattle.paging.specs.Maps.{allowed}
use Rattle.scanline.specs.Drawing.{View}
use Rattle.board.specs.declared.record.Board.{Board}
use Rattle.board.specs.declared.record.Boot.{Boot}
use Rattle.board.specs.declared.record.Clock.{Clock}
use Rattle.board.specs.declared.record.Disc.{Disc}
use Rattle.board.specs.Clock.{frame}

unfoldable pub good_rate : ℕ → Bool
good_rate rate = eqb rate 50 || eqb rate 60

-- "counter (0 to 15), beam"
unfoldable pub good_clock : ℕ → Clock → Bool
good_clock rate c = leb c.counter 15 && ltb c.beam (frame rate)

-- "boot mode and stream place (0 to 1,024)"
unfoldable pub good_boot : Boot → Bool
good_boot x = leb x.mode 1 && leb x.at 1024

-- "disc route (none, NMI, INT), disc line, .. terminal count, .. motor", and "never route NMI with the disc line on"
unfoldable pub good_disc : Disc → Bool
good_disc d =
    leb d.route 2
    && (leb d.line 1 && (leb d.terminal_count 1 && (leb d.motor 1 && not (eqb d.route 1 && eqb d.line 1))))

-- "external line, .. driven or floated, .. bleeper"
unfoldable pub good_flags : Board → Bool
good_flags b = leb b.external 1 && (leb b.driven 1 && leb b.bleeper 1)

-- "A good record has each in range, no note on an unshown line, and never route NMI with the disc line on."
unfoldable pub good : Board → Bool
good b =
    allowed b.sizes
    && (good_rate b.rate
    && (good_clock b.rate b.clock && (good_boot b.boot && (good_disc b.disc && (good_flags b && inside b.dirty (shown_set b.rate))))))

-- "1 the record is not good"
unfoldable pub record_refusal : Board → ℕ
record_refusal b = cond (good b) 0 1

-- "Checked in this order; the first that applies is given, and none otherwise."
unfoldable pub first_refusal : List ℕ → ℕ
first_refusal [] = 0
first_refusal (n ∷ ns) = cond (eqb n 0) (first_refusal ns) n

-- what the picture is made from
abbrev pub view_of : Board → List ℕ → View
view_of b ram = record { video = b.video; ram = ram }

-- the record with its clock, its disc controller and its dirty lines replaced
abbrev pub remade : Board → Clock → Disc → LineSet → Board
remade b c d lines = record {
  sizes = b.sizes;
  rate = b.rate;
  paging = b.paging;
  video = b.video;
  clock = c;
  boot = b.boot;
  disc = d;
  external = b.external;
  driven = b.driven;
  bleeper = b.bleeper;
  dirty = lines;
}

abbrev pub with_clock : Board → Clock → Board
with_clock b c = remade b c b.disc b.dirty

abbrev pub with_disc : Board → Disc → Board
with_disc b d = remade b b.clock d b.dirty

abbrev pub with_dirty : Board → LineSet → Board
with_dirty b lines = remade b b.clock b.disc lines
