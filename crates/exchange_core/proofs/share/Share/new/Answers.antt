use Rattle.std.proofs.Common.{◌≡◌, [], sym, subst, List, ℕ}
use Rattle.exchange_core.specs.Shares.{Rack, rack, share_of, IsWholeShare}
use Rattle.exchange_core.proofs.GrownShares.{nothing_whole}
use Rattle.exchange_core.proofs.share.Share.new.Goals as goal

record Fields : Type 0 where
  segment_of : List ℕ
  repeater_of : List ℕ
  segments : Rack
  repeaters : Rack

abbrev fields : List ℕ → List ℕ → Rack → Rack → Fields
fields a b s r = record { segment_of = a; repeater_of = b; segments = s; repeaters = r }

pub invariant_of-result : goal.invariant_of-result
invariant_of-result g c =
    let same : fields [] [] (rack [] []) (rack [] []) ≡ fields c.new-3.result.parts.items c.new-4.result.parts.items c.new.result c.new-2.result =
    sym (λ i. fields (c.new-3.ensures.parts i) (c.new-4.ensures.parts i) (rack (c.new.ensures.places i) (c.new.ensures.order i)) (rack (c.new-2.ensures.places i) (c.new-2.ensures.order i))) in
    subst (λ (f : Fields). IsWholeShare f.segment_of f.repeater_of (share_of f.segments f.repeaters)) same nothing_whole
