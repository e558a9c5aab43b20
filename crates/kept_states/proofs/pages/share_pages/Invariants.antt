use Rattle.kept_states.proofs.PageLists.{AreFirst}
use Rattle.kept_states.proofs.pages.share_pages.Given as goal

abbrev pub invariant-loop-place : goal.invariant-loop-place
invariant-loop-place l = AreFirst l.pages.memory l.place l.list.items
