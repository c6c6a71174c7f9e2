-- The branches of the taps so far.
use Rattle.std.proofs.Common.{◌≡◌, sym, ◌∙◌, ap, subst, inl, inr, ℕ, ◌+◌, ◌<◌, ◌≤◌, List, [], ◌∷◌, ◌++◌, length, get_or, take, Some, Option}
use Rattle.std.proofs.lemmas.List.{take_more, take_all}
use Rattle.layout.specs.declared.lines.Layout.{Layout}
use Rattle.layout.specs.declared.ways.Attachment.{Attachment}
use Rattle.layout.specs.declared.ways.Attachment.TheVariants.{Station, Port}
use Rattle.layout.specs.declared.ways.Way.{Way}
use Rattle.layout.specs.declared.ways.Way.TheVariants as way
use Rattle.layout.specs.Among.{IsAmong}
use Rattle.layout.specs.Paths.{part_by}
use Rattle.layout.specs.Sound.{IsSound}
use Rattle.layout.proofs.ItemsOfLists.{among_more, among_end, among_last, among_at}
use Rattle.path_checker.specs.declared.far.Far.{Far}
use Rattle.path_checker.specs.declared.stops.Network.{Network}
use Rattle.path_checker.specs.declared.stops.Stop.{Stop}
use Rattle.path_checker.specs.Far.{IsStop, IsReach, IsOnward, IsFarthest}
use Rattle.path_checker.specs.Stops.{IsNetworkOf, list_at}
use Rattle.path_checker.proofs.FarthestStation.{own_far, own_reach, onward_all}
use Rattle.path_checker.proofs.TapsBeside.{segment_each, segment_all}
use Rattle.path_slack.specs.declared.branches.Branch.{Branch}
use Rattle.path_slack.specs.Branches.{IsBranch, AreBranchesOf}

-- off its cable a station reaches itself alone
pub station_off : (l : Layout) (t : Attachment) (k : ℕ) (far : Option Far) → t ≡ Station k → far ≡ own_far k → IsFarthest (IsReach l way.Repeater t) far
station_off l t k far is far_is = rw (is, far_is) (own_reach l k)

-- and a port what is farther on, by either way
pub port_reaches : (l : Layout) (w : Way) (t : Attachment) (r p : ℕ) (far : Option Far) → t ≡ Port r p → IsFarthest (IsOnward l w t) far → IsFarthest (IsReach l w t) far
port_reaches l w t r p far is h = onward_all l w t far (λ j same. let no : Port r p ≡ Station j = sym is ∙ same in cc) h

-- one branch for each of these taps
pub record IsBranched (l : Layout) (ss : List Stop) (bs : List Branch) : Type 0 where
  pub each : (b : Branch) → IsAmong b bs → (s : Stop) × IsAmong s ss × (s.tap ≡ b.tap)
  pub far : (b : Branch) → IsAmong b bs → IsBranch l b
  pub all : (s : Stop) → IsAmong s ss → (b : Branch) × IsAmong b bs × (b.tap ≡ s.tap)

pub branched_none : (l : Layout) → IsBranched l [] []
branched_none l = record { each = λ b h. absurd h; far = λ b h. absurd h; all = λ s h. absurd h }

branched_last : (l : Layout) (ss : List Stop) (bs : List Branch) (s : Stop) (far : Option Far) → IsBranched l ss bs → IsFarthest (IsReach l way.Repeater s.tap) far → IsBranched l (ss ++ s ∷ []) (bs ++ record { tap = s.tap; far = far } ∷ [])
branched_last l ss bs s far h reach =
    let c : Branch = record { tap = s.tap; far = far } in
    record {
      each = λ b among.
          elim (among_last b c bs among) [
            | inl before ↦ let found : (u : Stop) × IsAmong u ss × (u.tap ≡ b.tap) = h.each b before in (found.0, among_more found.0 s ss found.1, found.2)
            | inr same ↦ (s, among_end s ss, ap (λ (x : Branch). x.tap) same)
          ];
      far = λ b among.
          elim (among_last b c bs among) [
            | inl before ↦ h.far b before
            | inr same ↦ subst (λ (x : Branch). IsBranch l x) same reach
          ];
      all = λ u among.
          elim (among_last u s ss among) [
            | inl before ↦ let found : (b : Branch) × IsAmong b bs × (b.tap ≡ u.tap) = h.all u before in (found.0, among_more found.0 c bs found.1, found.2)
            | inr same ↦ (c, among_end c bs, ap (λ (x : Stop). x.tap) same)
          ];
    }

pub branched_more : (l : Layout) (ss : List Stop) (bs new : List Branch) (k : ℕ) (d : Stop) (far : Option Far) → k < length ss → IsBranched l (take k ss) bs → IsFarthest (IsReach l way.Repeater (get_or ss k d).tap) far → new ≡ bs ++ record { tap = (get_or ss k d).tap; far = far } ∷ [] → IsBranched l (take (k + 1) ss) new
branched_more l ss bs new k d far low h reach is =
    subst (λ (us : List Stop). IsBranched l us new) (sym (take_more ss k d low)) (rw is (branched_last l (take k ss) bs (get_or ss k d) far h reach))

module _ (l : Layout) (net : Network) (sound : IsSound l) (of : IsNetworkOf l net) (segment : ℕ) (ss : List Stop) (is : ss ≡ list_at net.segments segment) where
  -- each tap of the list is the layout's
  pub stop_stands : (k : ℕ) (d : Stop) → k < length ss → IsStop l (get_or ss k d)
  stop_stands k d low = (segment_each l net sound of segment (get_or ss k d) (subst (λ (us : List Stop). IsAmong (get_or ss k d) us) is (among_at ss k d low))).0

  pub branched_all : (bs : List Branch) (k : ℕ) → length ss ≤ k → IsBranched l (take k ss) bs → AreBranchesOf l segment bs
  branched_all bs k all h =
      let whole : IsBranched l (list_at net.segments segment) bs = subst (λ (us : List Stop). IsBranched l us bs) (take_all k ss all ∙ is) h in
      record {
        on = λ b among.
            let found : (s : Stop) × IsAmong s (list_at net.segments segment) × (s.tap ≡ b.tap) = whole.each b among in
            subst (λ (t : Attachment). part_by l way.Cable t ≡ Some segment) found.2 (segment_each l net sound of segment found.0 found.1).1;
        far = whole.far;
        all = λ t on.
            let listed : (s : Stop) × IsAmong s (list_at net.segments segment) × (s.tap ≡ t) = segment_all l net sound of segment t on in
            let found : (b : Branch) × IsAmong b bs × (b.tap ≡ listed.0.tap) = whole.all listed.0 listed.1 in
            (found.0, found.1, found.2 ∙ listed.2);
      }
