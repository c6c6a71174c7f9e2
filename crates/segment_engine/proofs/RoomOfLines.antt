-- For how many symbols the lines of a segment have room.
use Rattle.std.proofs.Common.{◌≡◌, ℕ, ◌+◌, ◌<◌, ◌≤◌, ◌^◌, List, length, get_or, subst, arith}
use Rattle.std.proofs.lemmas.List.{get_or_default}
use Rattle.mac_parameters.specs.Parameters.{most_half_bits}
use Rattle.tap_lines.specs.TapLines.{TapLine, no_line}
use Rattle.segment_engine.specs.declared.running.Running.{Running}
use Rattle.segment_engine.specs.declared.segment.Segment.{Segment}
use Rattle.segment_engine.specs.RunningStates.{GoesOnAt, HaveRoomFrom, IsRunningAt}
use Rattle.segment_engine.specs.StationsApart.{AreToldAnew, TellsUpTo, most_told}
use Rattle.segment_engine.proofs.ChangedLines.{line_anew}

-- lines that are told anew have room for as much
pub room_anew : (u n from L : ℕ) (ls ls' : List TapLine) → AreToldAnew u n ls ls' → HaveRoomFrom from L ls → HaveRoomFrom from L ls'
room_anew u n from L ls ls' anew room =
    let many = anew.many in
    record {
      last = λ r h. let is = line_anew u n r ls ls' anew in let keeps = is.keeps in let z = room.last r (omega (arith, h, many)) in omega (arith, keeps, z);
      keep = λ r h.
          let is = line_anew u n r ls ls' anew in
          let keeps = is.keeps in
          let base = is.begins in
          let z = room.keep r (omega (arith, h, many)) in
          omega (arith, keeps, base, z);
      size = λ r h.
          let is = line_anew u n r ls ls' anew in
          let keeps = is.keeps in
          let size = is.size in
          let z = room.size r (omega (arith, h, many)) in
          omega (arith, keeps, size, z);
      fits = λ r h. let is = line_anew u n r ls ls' anew in let size = is.size in let z = room.fits r (omega (arith, h, many)) in omega (arith, size, z);
    }

-- those of a segment that goes on fit a number of 64 bits, and keep no more than they have room for
module _ (of : Segment) (front : ℕ) (a : Running) (at : GoesOnAt of front a) (r : ℕ) (d : TapLine) (h : r < length a.lines.items) where
  same : get_or a.lines.items r no_line ≡ get_or a.lines.items r d
  same = get_or_default a.lines.items r no_line d h

  pub fits_of : a.t ≤ most_half_bits → (get_or a.lines.items r d).base + length (get_or a.lines.items r d).symbols < 2 ^ 64
  fits_of in_time =
      let begun = at.lines.begins r h in
      let fits = at.room.fits r h in
      subst (λ (l : TapLine). l.base + length l.symbols < 2 ^ 64) same (omega (arith, begun, fits, in_time))

  pub keeps_of : (get_or a.lines.items r d).backlog ≤ length (get_or a.lines.items r d).symbols + (get_or a.lines.items r d).room
  keeps_of = let size = at.room.size r h in subst (λ (l : TapLine). l.backlog ≤ length l.symbols + l.room) same (omega (arith, size))

-- where the stations don't stand far behind
module _ (of : Segment) (front : ℕ) (a : Running) (at : IsRunningAt of front a) (in_time : a.t ≤ most_half_bits) (r : ℕ) (h : r < length a.lines.items) where
  -- a line that ends at the present half bit takes what comes in for a window
  pub takes_in : (get_or a.lines.items r no_line).base + length (get_or a.lines.items r no_line).symbols ≡ a.t → of.lookahead ≤ (get_or a.lines.items r no_line).room
  takes_in end =
      let keep = at.goes.room.keep r h in
      let size = at.goes.room.size r h in
      let near = at.near in
      omega (arith, keep, size, end, near)

  -- and any line what is told ahead in it
  pub tells_of : (end : ℕ) → end ≤ a.t + of.lookahead → TellsUpTo a.t (end + most_told) (get_or a.lines.items r no_line)
  tells_of end few =
      let begun = at.goes.lines.begins r h in
      let keep = at.goes.room.keep r h in
      let size = at.goes.room.size r h in
      let fits = at.goes.room.fits r h in
      let near = at.near in
      record {
        begun = omega (arith, begun);
        takes = omega (arith, keep, size, near, few);
        fits = omega (arith, begun, fits, in_time);
      }
