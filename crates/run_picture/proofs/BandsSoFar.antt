-- The bands as far as they are laid out.
use Rattle.std.proofs.Common.{◌≡◌, ℕ, suc, ◌+◌, ◌<◌, List, [], ◌∷◌, ◌++◌, length, drop, get_or, refl, sym, ap, ◌∙◌, arith, append_assoc, drop-cons}
use Rattle.layout.specs.declared.lines.Layout.{Layout}
use Rattle.layout.specs.declared.lines.SegmentLine.{SegmentLine}
use Rattle.run_picture.specs.Lanes.{band_at, bands_from, bottom_of, end_of_bands}
use Rattle.run_picture.specs.declared.lanes.Band.{Band}

-- there are as many bands as segments
pub length-bands_from : (l : Layout) (top k : ℕ) (segments : List SegmentLine) → length (bands_from l top k segments) ≡ length segments
length-bands_from l top k [] = refl
length-bands_from l top k (s ∷ segments) = ap suc (length-bands_from l (bottom_of (band_at l top k)) (k + 1) segments)

-- the bands from the k-th on are the k-th and those from the next on
bands_split : (l : Layout) (top k : ℕ) (segments : List SegmentLine) → k < length segments
    → bands_from l top k (drop k segments) ≡ band_at l top k ∷ bands_from l (bottom_of (band_at l top k)) (k + 1) (drop (k + 1) segments)
bands_split l top k segments h =
    let first : SegmentLine = record { name = [] } in
    let split : drop k segments ≡ get_or segments k first ∷ drop (suc k) segments = drop-cons segments k first h in
    let next : suc k ≡ k + 1 = omega arith in
    ap (bands_from l top k) split ∙ ap (λ (j : ℕ). band_at l top k ∷ bands_from l (bottom_of (band_at l top k)) (k + 1) (drop j segments)) next

-- one band more
pub more_bands : (l : Layout) (bands new : List Band) (top below k : ℕ) (band : Band) (segments : List SegmentLine) (whole : List Band) → k < length segments
    → band ≡ band_at l top k → new ≡ bands ++ band ∷ [] → below ≡ bottom_of band → bands ++ bands_from l top k (drop k segments) ≡ whole
    → new ++ bands_from l below (k + 1) (drop (k + 1) segments) ≡ whole
more_bands l bands new top below k band segments whole within is pushed at h =
    let rest : List Band = bands_from l (bottom_of (band_at l top k)) (k + 1) (drop (k + 1) segments) in
    let under : below ≡ bottom_of (band_at l top k) = at ∙ ap bottom_of is in
    ap (λ (y : ℕ). new ++ bands_from l y (k + 1) (drop (k + 1) segments)) under
    ∙ ap (λ (bs : List Band). bs ++ rest) (pushed ∙ ap (λ (b : Band). bands ++ b ∷ []) is)
    ∙ append_assoc bands (band_at l top k ∷ []) rest
    ∙ sym (ap (λ (bs : List Band). bands ++ bs) (bands_split l top k segments within)) ∙ h

-- the end of the bands stays where it is
pub same_end : (l : Layout) (top below k : ℕ) (band : Band) (segments : List SegmentLine) (end : ℕ) → k < length segments
    → band ≡ band_at l top k → below ≡ bottom_of band → end_of_bands top (bands_from l top k (drop k segments)) ≡ end
    → end_of_bands below (bands_from l below (k + 1) (drop (k + 1) segments)) ≡ end
same_end l top below k band segments end within is at h =
    let under : below ≡ bottom_of (band_at l top k) = at ∙ ap bottom_of is in
    ap (λ (y : ℕ). end_of_bands y (bands_from l y (k + 1) (drop (k + 1) segments))) under
    ∙ sym (ap (end_of_bands top) (bands_split l top k segments within)) ∙ h
