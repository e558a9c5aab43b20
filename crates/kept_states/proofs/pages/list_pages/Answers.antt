use Rattle.std.proofs.Common.{◌≤◌, length, map, ap, ◌∙◌, arith}
use Rattle.std.proofs.lemmas.List.{take_all}
use Rattle.kept_states.specs.Listed.{AreSame, shared_parts}
use Rattle.kept_states.proofs.PageLists.{listed}
use Rattle.kept_states.proofs.pages.list_pages.Goals as goal

pub returns-clause-list : goal.returns-clause-list
returns-clause-list c =
    let past : length c.args.pages.now ≤ c.loop-page.page-index = omega arith in
    let same : AreSame c.loop-page.list.items c.args.pages.now =
    c.loop-page.invariant ∙ ap (map shared_parts) (take_all c.loop-page.page-index c.args.pages.now past) in
    listed c.loop-page.list.items c.args.pages.now same c.requires
