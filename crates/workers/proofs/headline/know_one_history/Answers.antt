use Rattle.workers.proofs.headline.know_one_history.Goals as goal

pub returns : goal.returns
returns g c = λ k seat small. λ table i j r there here.
    let known = c.seats_know_one_history.ensures.beginnings in
    (known table i _ r there, known table j _ r here)
