-- The taps that words name, word by word.
use Rattle.std.proofs.Common.{◌≡◌, ℕ, suc, ◌+◌, ◌<◌, ◌≤◌, List, [], ◌∷◌, ◌++◌, take, drop, length, get_or, refl, sym, ap, ◌∙◌}
use Rattle.std.proofs.lemmas.List.{drop_more, take-append-drop, take_all, take_more}
use Rattle.layout.specs.declared.lines.Layout.{Layout}
use Rattle.line_probe.specs.Taps.{IsWordOf}
use Rattle.line_probe.specs.declared.tap.Tap.{Tap}
use Rattle.program_endings.specs.Probes.{AreTapsOf, IsFirstUnknown, NamesNoTap}

named_more : (network : Layout) (words : List (List ℕ)) (taps : List Tap) (word : List ℕ) (tap : Tap) → AreTapsOf network words taps → IsWordOf network word tap → AreTapsOf network (words ++ word ∷ []) (taps ++ tap ∷ [])
named_more network [] [] word tap all one = (one, tt)
named_more network [] (t ∷ ts) word tap all one = absurd all
named_more network (w ∷ ws) [] word tap all one = absurd all
named_more network (w ∷ ws) (t ∷ ts) word tap all one = (all.0, named_more network ws ts word tap all.1 one)

-- one word more
pub named_next : (network : Layout) (words : List (List ℕ)) (k : ℕ) (e word : List ℕ) (taps next : List Tap) (tap : Tap) → k < length words → word ≡ get_or words k e → AreTapsOf network (take k words) taps → IsWordOf network word tap
    → next ≡ taps ++ tap ∷ [] → AreTapsOf network (take (k + 1) words) next
named_next network words k e word taps next tap lt is all one pushed =
    rw (pushed, take_more words k e lt, ← is) (named_more network (take k words) taps word tap all one)

-- all words
pub named_all : (network : Layout) (words : List (List ℕ)) (k : ℕ) (taps : List Tap) → length words ≤ k → AreTapsOf network (take k words) taps → AreTapsOf network words taps
named_all network words k taps all h = rw (take_all k words all) at h

-- the first one that names no tap
pub first_unknown : (network : Layout) (words : List (List ℕ)) (k : ℕ) (e word : List ℕ) (taps : List Tap) → k < length words → word ≡ get_or words k e → AreTapsOf network (take k words) taps → NamesNoTap network word
    → IsFirstUnknown network words word
first_unknown network words k e word taps lt is all none =
    record {
      front = take k words;
      rest = drop (k + 1) words;
      is = sym (take-append-drop k words) ∙ ap (λ (ws : List (List ℕ)). take k words ++ ws) (drop_more words k e lt ∙ ap (λ (w : List ℕ). w ∷ drop (k + 1) words) (sym is));
      taps = taps;
      named = all;
      unknown = none;
    }

-- as many taps as words
pub named_many : (network : Layout) (words : List (List ℕ)) (taps : List Tap) → AreTapsOf network words taps → length taps ≡ length words
named_many network [] [] h = refl
named_many network [] (t ∷ ts) h = absurd h
named_many network (w ∷ ws) [] h = absurd h
named_many network (w ∷ ws) (t ∷ ts) h = ap suc (named_many network ws ts h.1)
