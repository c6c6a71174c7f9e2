use Rattle.window_exchange.proofs.MailNamesTell.{same_parcel}
use Rattle.window_exchange.proofs.laws.names_tell.Goals as goal

pub returns : goal.returns
returns c = same_parcel
