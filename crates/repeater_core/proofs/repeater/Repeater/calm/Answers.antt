use Rattle.repeater_core.proofs.CalmIsExact.{calm_where_open, calm_where_shut}
use Rattle.repeater_core.proofs.repeater.Repeater.calm.Goals as goal

pub returns-then-any_opens-clause-calm : goal.returns-then-any_opens-clause-calm
returns-then-any_opens-clause-calm c = (calm_where_open _ _ _ _ c.self.view_is c.self.invariant c.any_opens.ensures c.deref.ensures.value c.if-any_opens.true).0

pub returns-then-any_opens-clause-greatest : goal.returns-then-any_opens-clause-greatest
returns-then-any_opens-clause-greatest c = (calm_where_open _ _ _ _ c.self.view_is c.self.invariant c.any_opens.ensures c.deref.ensures.value c.if-any_opens.true).1

pub returns-clause-calm : goal.returns-clause-calm
returns-clause-calm c =
    (calm_where_shut _ _ _ _ _ _ _ _ c.self.view_is c.self.invariant c.any_opens.ensures c.deref.ensures.value c.if-any_opens.false
    c.ports_calm.ensures c.deref-2.ensures.value c.calm.ensures c.min.ensures).0

pub returns-clause-greatest : goal.returns-clause-greatest
returns-clause-greatest c =
    (calm_where_shut _ _ _ _ _ _ _ _ c.self.view_is c.self.invariant c.any_opens.ensures c.deref.ensures.value c.if-any_opens.false
    c.ports_calm.ensures c.deref-2.ensures.value c.calm.ensures c.min.ensures).1
