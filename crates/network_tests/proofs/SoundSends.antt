-- A sound layout of format 1 with two stations is sound with other sends too.
use Rattle.std.proofs.Common.{◌≡◌, ◌≤◌, All, List, length, sym, subst}
use Rattle.layout.specs.declared.lines.Layout.{Layout}
use Rattle.layout.specs.declared.lines.SendLine.{SendLine}
use Rattle.layout.specs.Limits.{most_sends}
use Rattle.layout.specs.Sound.{IsSound, IsSoundSend}

pub sound_with_sends : (l : Layout) (sends : List SendLine)
    → IsSound l → l.format ≡ 1 → length l.stations ≡ 2 → length sends ≤ most_sends → All (IsSoundSend 1 2) sends
    → IsSound (record {
      format = l.format;
      seed = l.seed;
      until_bits = l.until_bits;
      segments = l.segments;
      stations = l.stations;
      repeaters = l.repeaters;
      sends = sends;
    })
sound_with_sends l sends s one two few sound =
    record {
      format = s.format;
      seed = s.seed;
      bits_least = s.bits_least;
      bits_most = s.bits_most;
      device_bits = s.device_bits;
      segments_least = s.segments_least;
      segments_most = s.segments_most;
      stations_most = s.stations_most;
      repeaters_most = s.repeaters_most;
      sends_most = few;
      segments = s.segments;
      stations = s.stations;
      repeaters = s.repeaters;
      sends = subst (λ f. All (IsSoundSend f (length l.stations)) sends) (sym one)
          (subst (λ n. All (IsSoundSend 1 n) sends) (sym two) sound);
      segment_names = s.segment_names;
      device_names = s.device_names;
      taps = s.taps;
      tree = record { loops = s.tree.loops; joined = s.tree.joined };
    }
