-- A page shows the rows whose lines have a mark in a picture of the same half bits.
use Rattle.std.proofs.Common.{◌≡◌, ℕ, refl, sym, ap, ◌∙◌}
use Rattle.collision_log.specs.declared.row.Body.{Body}
use Rattle.collision_log.specs.declared.row.Body.TheVariants.{Sent, Collided, GivenUp, Cut, Received, Dropped, Clash, Closed, Opened, Halted}
use Rattle.run_picture.specs.Sendings.{does_sending_meet, sending_of}
use Rattle.run_picture.specs.declared.window.Window.{Window}
use Rattle.run_page.specs.PageLaws.{RowsAreAsInPictures}
use Rattle.run_page.specs.RowLines.{reaches_window, start_of_sending}

same_half_bits : (window : Window) (t : ℕ) (b : Body) → reaches_window window.from window.to t (start_of_sending b) ≡ does_sending_meet window t (sending_of t b)
same_half_bits window t (Sent frame start attempt) = refl
same_half_bits window t (Collided frame start attempt hit drawn) = refl
same_half_bits window t (GivenUp frame start hit) = refl
same_half_bits window t (Cut frame start attempt hit) = refl
same_half_bits window t (Received octets) = refl
same_half_bits window t (Dropped why halves) = refl
same_half_bits window t Clash = refl
same_half_bits window t (Closed port) = refl
same_half_bits window t (Opened port) = refl
same_half_bits window t (Halted port) = refl

pub rows_are_as_in_pictures : RowsAreAsInPictures
rows_are_as_in_pictures from to row line time body =
    let window : Window = record { from = from; to = to } in
    same_half_bits window row.t row.body
    ∙ sym (ap (λ (t : ℕ). does_sending_meet window t (sending_of t line.body)) time
    ∙ ap (λ (b : Body). does_sending_meet window row.t (sending_of row.t b)) body)
