use Rattle.std.proofs.Common.{◌≡◌, ◌+◌, ◌-◌, ◌%◌, ◌∙◌, get_or, length, length-drop, length-take-le, take, drop, ap, arith}
use Rattle.manchester_line.specs.declared.Sym.TheVariants.{Idle}
use Rattle.mac_parameters.specs.Parameters.{half_bits_an_octet}
use Rattle.manchester_line.specs.Decoding.{Decoding, all_pushed, pushed}
use Rattle.manchester_line.proofs.FramePairs.{all_counted, even_half}
use Rattle.manchester_line.proofs.WholeOctets.{last_half, piece_on}
use Rattle.manchester_line.proofs.decoder.Decoder.push_whole.Goals as goal

pub loop-at-preserved : goal.loop-at-preserved
loop-at-preserved c =
    let hs = c.args.halves.now in
    let at = c.loop-at.at in
    let d : Decoding = c.loop-at.self in
    let part = take half_bits_an_octet (drop at hs) in
    let n : at + half_bits_an_octet - at ≡ half_bits_an_octet = omega arith in
    let kept : c.push_octet.new.self ≡ all_pushed d part = c.push_octet.ensures ∙ ap (λ k. all_pushed d (take k (drop at hs))) n in
    let long : length part ≡ half_bits_an_octet = length-take-le half_bits_an_octet (drop at hs) (omega (arith, length-drop at hs)) in
    record {
      within = omega arith;
      even = omega arith;
      half = ap (λ (x : Decoding). x.half) kept ∙ even_half part d (omega (arith, long)) c.loop-at.invariant.half;
      counted = omega (arith, ap (λ (x : Decoding). x.halves) kept, all_counted part d, long, c.loop-at.invariant.counted);
      rest = piece_on hs at half_bits_an_octet d c.push_octet.new.self kept ∙ c.loop-at.invariant.rest;
    }

pub push_half-requires : goal.push_half-requires
push_half-requires c =
    let hs = c.args.halves.now in
    let at = c.loop-at.at in
    let n = length hs - length hs % 2 - at in
    let part = take n (drop at hs) in
    let long : length part ≡ n = length-take-le n (drop at hs) (omega (arith, length-drop at hs)) in
    omega (arith, ap (λ (x : Decoding). x.halves) c.push_pairs.ensures, all_counted part c.loop-at.self, long, c.loop-at.invariant.counted, c.requires.count)

pub returns-then-end-halves : goal.returns-then-end-halves
returns-then-end-halves c =
    let hs = c.args.halves.now in
    let at = c.loop-at.at in
    let n = length hs - length hs % 2 - at in
    let end : length hs - length hs % 2 ≡ at + n = omega arith in
    c.push_half.ensures
    ∙ ap (λ k. pushed c.push_pairs.new.self (get_or hs k Idle)) end
    ∙ last_half hs at n c.loop-at.self c.push_pairs.new.self c.push_pairs.ensures (omega arith)
    ∙ c.loop-at.invariant.rest
