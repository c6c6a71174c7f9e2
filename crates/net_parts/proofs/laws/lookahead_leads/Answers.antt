use Rattle.net_parts.proofs.LookaheadLeads.{lookahead_leads}
use Rattle.net_parts.proofs.laws.lookahead_leads.Goals as goal

pub returns : goal.returns
returns c = lookahead_leads
