use Rattle.outside.specs.declared.store.StoreFail.{StoreFail}
use Rattle.file_pieces.proofs.GivenInTurn.{given-more}
use Rattle.file_pieces.proofs.pieces.take_piece.Goals as goal

pub returns-in-Ok-clause-given : goal.returns-in-Ok-clause-given
returns-in-Ok-clause-given g c =
    given-more g.T.Taker.given StoreFail c.args.name.now (g.S.Store.held c.args.store.now) c.args.from c.in_ok-count.count _ c.args.taker.now c.take.new.self c.in_ok-count.ensures.octets c.in-Ok.ensures
