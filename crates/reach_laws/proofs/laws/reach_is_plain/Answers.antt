use Rattle.reach_laws.proofs.Machine.{HaveRows}
use Rattle.reach_laws.proofs.Reach.{plain_reached, plain_later}
use Rattle.reach_laws.proofs.laws.reach_is_plain.Goals as goal

pub returns : goal.returns
returns c =
    let rows : HaveRows = λ word it small means.
    (c.has_word.ensures it).0 (record { word = word; means = (c.means_either.ensures word it small).0 means }) in
    record {
      start = λ program config thread journal turns s used left h is.
          plain_reached rows program config thread journal h turns s used left is;
      later = λ program config thread journal turns more s t used now left rest h is later.
          plain_later rows program config thread journal h turns more s t used now left rest is later;
    }
