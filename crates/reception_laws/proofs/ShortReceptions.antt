-- A reception of fewer half bits than the shortest one of a frame has fewer octets than the least frame, whatever was
-- heard in it.
use Rattle.std.proofs.Common.{◌≡◌, ℕ, ◌+◌, ◌-◌, ◌*◌, ◌/◌, ◌<◌, ◌≤◌, Bool, true, false, Option, Some, None, List, [], ◌∷◌, length, drop, refl, ap, arith, length-drop}
use Rattle.std.specs.Prelude.{if◌then◌else◌}
use Rattle.std.specs.Option.{option_map}
use Rattle.std.proofs.lemmas.Bool.{lt-ltb}
use Rattle.std.proofs.lemmas.Option.{none-some, same_Some}
use Rattle.manchester_line.specs.declared.Sym.{Sym}
use Rattle.manchester_line.specs.Reading.{bit_of_pair, add_bit, bits_of, after_delimiter, reading, octets_of_bits, spare_of_bits}
use Rattle.frame_layout.specs.Frame.{verdict_of}
use Rattle.frame_layout.specs.declared.verdict.Verdict.TheVariants.{Fragment}
use Rattle.collision_log.specs.declared.row.Body.TheVariants.{Dropped}
use Rattle.collision_log.specs.declared.row.Why.TheVariants as why
use Rattle.mac_parameters.specs.Parameters.{least_frame, shortest_line_text}
use Rattle.mac_receive.specs.Receiver.{left_halves, judged_row, judged_octets, reading_row, reading_octets}
use Rattle.window_room.specs.Receptions.{least_reception}

-- two half bits for each bit
one_bit : (p : Option Bool) (o : Option (List Bool)) (bits : List Bool) (n : ℕ) → ((bs : List Bool) → o ≡ Some bs → 2 * length bs ≡ n) → add_bit p o ≡ Some bits → 2 * length bits ≡ n + 2
one_bit None o bits n ih is = absurd (none-some bits is)
one_bit (Some b) None bits n ih is = absurd (none-some bits is)
one_bit (Some b) (Some bs) bits n ih is =
    let len : length (b ∷ bs) ≡ length bits = ap length (same_Some (b ∷ bs) bits is) in
    let rest : 2 * length bs ≡ n = ih bs refl in
    omega (arith, len, rest)

bits_length : (xs : List Sym) (bits : List Bool) → bits_of xs ≡ Some bits → 2 * length bits ≡ length xs
bits_length [] bits is =
    let len : 0 ≡ length bits = ap length (same_Some [] bits is) in omega (arith, len)
bits_length (a ∷ []) bits is = absurd (none-some bits is)
bits_length (a ∷ b ∷ rest) bits is =
    let two : 2 * length bits ≡ length rest + 2 = one_bit (bit_of_pair a b) (bits_of rest) bits (length rest) (λ bs e. bits_length rest bs e) is in
    omega (arith, two)

-- the two 1 bits at the end of the delimiter are no bits of the frame
delimiter_takes : (bits : List Bool) → (length (after_delimiter true bits) ≤ length bits - 1) × (length (after_delimiter false bits) ≤ length bits - 2)
delimiter_takes [] = (omega arith, omega arith)
delimiter_takes (true ∷ bs) =
    let ih : length (after_delimiter true bs) ≤ length bs - 1 = (delimiter_takes bs).0 in (omega arith, omega (arith, ih))
delimiter_takes (false ∷ bs) =
    let ih : length (after_delimiter false bs) ≤ length bs - 2 = (delimiter_takes bs).1 in (omega (arith, ih), omega (arith, ih))

-- eight bits for each octet
octets_length : (bits : List Bool) → 8 * length (octets_of_bits bits) ≤ length bits
octets_length [] = omega arith
octets_length (a ∷ []) = omega arith
octets_length (a ∷ b ∷ []) = omega arith
octets_length (a ∷ b ∷ c ∷ []) = omega arith
octets_length (a ∷ b ∷ c ∷ d ∷ []) = omega arith
octets_length (a ∷ b ∷ c ∷ d ∷ e ∷ []) = omega arith
octets_length (a ∷ b ∷ c ∷ d ∷ e ∷ f ∷ []) = omega arith
octets_length (a ∷ b ∷ c ∷ d ∷ e ∷ f ∷ g ∷ []) = omega arith
octets_length (a ∷ b ∷ c ∷ d ∷ e ∷ f ∷ g ∷ h ∷ rest) =
    let ih : 8 * length (octets_of_bits rest) ≤ length rest = octets_length rest in omega (arith, ih)

-- so this many half bits are needed for so many octets
read_length : (o : Option (List Bool)) (bits : List Bool) (n : ℕ) → ((bs : List Bool) → o ≡ Some bs → 2 * length bs ≡ n) → option_map (after_delimiter false) o ≡ Some bits → length bits ≤ n / 2 - 2
read_length None bits n h is = absurd (none-some bits is)
read_length (Some bs) bits n h is =
    let len : length (after_delimiter false bs) ≡ length bits = ap length (same_Some (after_delimiter false bs) bits is) in
    let fewer : length (after_delimiter false bs) ≤ length bs - 2 = (delimiter_takes bs).1 in
    let two : 2 * length bs ≡ n = h bs refl in
    omega (arith, len, fewer, two)

pub octets_need : (xs : List Sym) (bits : List Bool) → length xs < least_reception → reading xs ≡ Some bits → length (octets_of_bits bits) < least_frame
octets_need xs bits short is =
    let few : length bits ≤ length xs / 2 - 2 = read_length (bits_of xs) bits (length xs) (λ bs e. bits_length xs bs e) is in
    let eight : 8 * length (octets_of_bits bits) ≤ length bits = octets_length bits in
    omega (arith, few, eight, short)

too_few : (octets : List ℕ) (spare most : ℕ) → length octets < least_frame → verdict_of octets spare most ≡ Fragment
unfolding verdict_of
too_few octets spare most few = rw (lt-ltb (length octets) least_frame few)

row_short : (o : Option (List Bool)) (most n : ℕ) → n < least_reception → ((bits : List Bool) → o ≡ Some bits → length (octets_of_bits bits) < least_frame) → reading_row o most n ≡ Dropped why.Fragment n
row_short None most n short few =
    ap (λ t. if t then Dropped why.Fragment n else Dropped why.Damaged n) (lt-ltb n shortest_line_text (omega (arith, short)))
row_short (Some bits) most n short few =
    ap (λ v. judged_row v (length (octets_of_bits bits)) n) (too_few (octets_of_bits bits) (spare_of_bits bits) most (few bits refl))

octets_short : (o : Option (List Bool)) (most : ℕ) → ((bits : List Bool) → o ≡ Some bits → length (octets_of_bits bits) < least_frame) → reading_octets o most ≡ []
octets_short None most few = refl
octets_short (Some bits) most few =
    ap (λ v. judged_octets v (octets_of_bits bits)) (too_few (octets_of_bits bits) (spare_of_bits bits) most (few bits refl))

-- nor has what is left without the lost half bits
few_left : (lose : ℕ) (text : List Sym) → length text < least_reception → (bits : List Bool) → reading (left_halves lose text) ≡ Some bits → length (octets_of_bits bits) < least_frame
few_left lose text short bits is =
    let len : length (drop (2 * lose) text) ≡ length text - 2 * lose = length-drop (2 * lose) text in
    octets_need (drop (2 * lose) text) bits (omega (arith, len, short)) is

pub short_row : (lose most : ℕ) (text : List Sym) → length text < least_reception → reading_row (reading (left_halves lose text)) most (length text) ≡ Dropped why.Fragment (length text)
short_row lose most text short = row_short (reading (left_halves lose text)) most (length text) short (few_left lose text short)

pub short_octets : (lose most : ℕ) (text : List Sym) → length text < least_reception → reading_octets (reading (left_halves lose text)) most ≡ []
short_octets lose most text short = octets_short (reading (left_halves lose text)) most (few_left lose text short)
