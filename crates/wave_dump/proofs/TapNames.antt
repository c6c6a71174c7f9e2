-- The words by which taps are named stand as one word each in a dump.
use Rattle.std.proofs.Common.{◌≡◌, ◌≢◌, ℕ, zero, suc, ◌+◌, ◌-◌, ◌<◌, ◌≤◌, ◌^◌, ◌==◌, ◌&&◌, not, true, false, List, [], ◌∷◌, ◌++◌, length, map, codes, Some, inl, inr, refl, sym, ap, subst, arith}
use Rattle.std.specs.Prelude.{decimal, slice_get}
use Rattle.std.specs.List.{AllByRecursion, list_all}
use Rattle.std.proofs.lemmas.Bool.{ne_eqb}
use Rattle.std.proofs.lemmas.List.Elements.{recursion_from_All}
use Rattle.layout.specs.NameOctets.{is_name_octet}
use Rattle.layout.specs.Sound.{IsName, IsSoundRepeater, IsSoundStation}
use Rattle.layout.specs.declared.lines.RepeaterLine.{RepeaterLine}
use Rattle.layout.specs.declared.lines.StationLine.{StationLine}
use Rattle.line_probe.specs.Taps.{IsPortOf}
use Rattle.wave_dump.specs.Reading.{ends_word, is_dollar}
use Rattle.wave_dump.specs.WaveLaws.{IsDumpName, TapWordsAreNames}
use Rattle.wave_dump.proofs.WordReadings.{more_of_name, number_is_name}

none_of_name : (c d : ℕ) → is_name_octet c ≡ true → is_name_octet d ≡ false → c ≡ d → ⊥
none_of_name c d h k e = let same : is_name_octet c ≡ is_name_octet d = ap is_name_octet e in cc

octet_stands : (c : ℕ) → is_name_octet c ≡ true → (not (ends_word c) && not (is_dollar c)) ≡ true
unfolding is_name_octet
octet_stands c h =
    let e1 : (c == 32) ≡ false = ne_eqb c 32 (none_of_name c 32 h refl) in
    let e2 : (c == 10) ≡ false = ne_eqb c 10 (none_of_name c 10 h refl) in
    let e3 : (c == 36) ≡ false = ne_eqb c 36 (none_of_name c 36 h refl) in
    rw (e1, e2, e3) refl

octets_stand : (s : List ℕ) → AllByRecursion (λ c. is_name_octet c ≡ true) s → list_all (λ c. not (ends_word c) && not (is_dollar c)) s ≡ true
octets_stand [] h = refl
octets_stand (c ∷ s) h = cc (octet_stands c h.0, octets_stand s h.1)

some_octets : (s : List ℕ) → 1 ≤ length s → s ≢ []
some_octets s h e = absurd (omega (arith, ap length e))

name_stands : (s : List ℕ) → IsName s → IsDumpName s
name_stands s h = record { some = some_octets s h.least; octets = octets_stand s (recursion_from_All (λ c. is_name_octet c ≡ true) s h.octets) }

station_stands : (format segments : ℕ) (ss : List StationLine) (k : ℕ) (word : List ℕ) → AllByRecursion (IsSoundStation format segments) ss → slice_get (map (λ s. s.name) ss) k ≡ Some word → IsDumpName word
station_stands format segments [] zero word h at = cc at
station_stands format segments [] (suc k) word h at = cc at
station_stands format segments (s ∷ ss) zero word h at = let same : s.name ≡ word = cc at in subst IsDumpName same (name_stands s.name h.0.name)
station_stands format segments (s ∷ ss) (suc k) word h at = station_stands format segments ss k word h.1 at

port_stands : (segments : ℕ) (repeater : RepeaterLine) (port : ℕ) (word : List ℕ) → IsSoundRepeater segments repeater → IsPortOf repeater port word → IsDumpName word
port_stands segments repeater port word h is =
    let small : port + 1 < 2 ^ 64 = omega (arith, is.within, h.ports_most) in
    subst IsDumpName (sym is.named)
    (more_of_name (repeater.name ++ codes ":") (decimal (port + 1)) (more_of_name repeater.name (codes ":") (name_stands repeater.name h.name) refl) (number_is_name (port + 1) small).octets)

repeater_sound : (segments : ℕ) (rows : List RepeaterLine) (k : ℕ) (row : RepeaterLine) → AllByRecursion (IsSoundRepeater segments) rows → slice_get rows k ≡ Some row → IsSoundRepeater segments row
repeater_sound segments [] zero row h at = cc at
repeater_sound segments [] (suc k) row h at = cc at
repeater_sound segments (r ∷ rows) zero row h at = let same : r ≡ row = cc at in subst (IsSoundRepeater segments) same h.0
repeater_sound segments (r ∷ rows) (suc k) row h at = repeater_sound segments rows k row h.1 at

pub tap_words_are_names : TapWordsAreNames
tap_words_are_names l word tap sound (inl h) =
    station_stands l.format (length l.segments) l.stations tap.device word (recursion_from_All (IsSoundStation l.format (length l.segments)) l.stations sound.stations) h.named
tap_words_are_names l word tap sound (inr h) =
    port_stands (length l.segments) h.repeater tap.port word
    (repeater_sound (length l.segments) l.repeaters (tap.device - length l.stations) h.repeater (recursion_from_All (IsSoundRepeater (length l.segments)) l.repeaters sound.repeaters) h.device)
    h.port_of
