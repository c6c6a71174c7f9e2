-- An example of what marks draw: in a picture of half bits 0 to 500, a sending of half bits 0 to 192 that was hit in
-- half bit 10, on a lane 30 pixels down.
use Rattle.std.proofs.Common.{◌≡◌, refl}
use Rattle.std.specs.Prelude.{codes}
use Rattle.std.specs.Fmt.{digits}
use Rattle.run_picture.specs.Elements.{bar_element, place_of_half_bit, sign_element}

pub bar : bar_element (codes "collided") (place_of_half_bit 0 500 0) (place_of_half_bit 0 500 192) 3000 ≡ codes "<path class='collided' d='M0 3000m0 -450H38400v900H0z'/>"
unfolding digits
bar = refl

pub hit : sign_element (codes "hit") (place_of_half_bit 0 500 10) 3000 ≡ codes "<path class='hit' d='M2000 3000m"
unfolding digits
hit = refl
