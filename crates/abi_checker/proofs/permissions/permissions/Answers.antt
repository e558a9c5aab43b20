use Rattle.std.proofs.Common.{rules, List, ℕ, ◌/◌, ◌≡◌, ◌≤◌, ◌∙◌, sym, ap, length, take, arith, add-one, ◌++◌, ◌∷◌, []}
use Rattle.std.proofs.lemmas.Grind.{common_steps}
use Rattle.std.specs.FinMap.{entries, len-entries}
use Rattle.plain_lemmas.proofs.Lists.{take-suc_at}
use Rattle.abi_checker.proofs.permissions.permissions.Goals as goal

pub pages-preserved : goal.pages-preserved
pages-preserved c =
    let items : c.push.new.self.items ≡ c.pages.list.items ++ (c.in-Some.page.address / 4096, c.in-Some.page.flags) ∷ [] = search rules in
    items ∙ ap (λ (l : List (ℕ × ℕ)). l ++ (c.in-Some.page.address / 4096, c.in-Some.page.flags) ∷ []) c.pages.invariant
    ∙ sym (ap (λ i. take i (entries c.args.pages.now.memory.perm)) (add-one c.pages.index)
    ∙ take-suc_at (entries c.args.pages.now.memory.perm) c.pages.index _ c.in-Some.ensures.entry)

pub returns-clause-pages : goal.returns-clause-pages
returns-clause-pages c =
    let value = c.page_count-count.ensures.value in
    let past : length (entries c.args.pages.now.memory.perm) ≤ c.pages.index =
    omega (arith, len-entries c.args.pages.now.memory.perm, value) in
    let all : take c.pages.index (entries c.args.pages.now.memory.perm) ≡ entries c.args.pages.now.memory.perm =
    grind (arith, common_steps) in
    c.pages.invariant ∙ all
