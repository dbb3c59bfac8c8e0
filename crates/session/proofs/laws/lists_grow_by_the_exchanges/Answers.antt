use Rattle.session.proofs.SeatLemmas.{answers_grow}
use Rattle.session.proofs.ExchangeLemmas.{moves_follow, orders_grow}
use Rattle.session.proofs.laws.lists_grow_by_the_exchanges.Goals as goal

pub returns-clause-seat : goal.returns-clause-seat
returns-clause-seat c = moves_follow

pub returns-clause-answers : goal.returns-clause-answers
returns-clause-answers c = answers_grow

pub returns-clause-orders : goal.returns-clause-orders
returns-clause-orders c = orders_grow
