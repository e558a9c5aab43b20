use Rattle.std.proofs.Common.{◌≡◌, ℕ, ap, sym, ◌∙◌, subst, false, None, [], w32}
use Rattle.std.specs.Prelude.{unwrap_or}
use Rattle.std.proofs.lemmas.Int.{to_z-of_z}
use Rattle.paged_memory.specs.Memory.{run_of}
use Rattle.mem_access.specs.Checks.{access_fault}
use Rattle.mem_access.proofs.Lists.{bytes_run}
use Rattle.sve_access.specs.After.{at_base, read_bytes}
use Rattle.sve_access.specs.Registers.{with_register}
use Rattle.sve_access.proofs.Registers.{load_made}
use Rattle.sve_access.proofs.transfers.load_register.Goals as goal

pub returns-in-Some-clause-made : goal.returns-in-Some-clause-made
returns-in-Some-clause-made c =
    let times = to_z-of_z w32 c.args.times c.ranges.times in
    let a = c.run_from-run.result.address in
    let n = c.run_from-run.result.size in
    let m = c.args.pages.now.memory in
    let size = c.run_from-run.ensures.size ∙ c.size.ensures.value in
    let read = sym (ap (λ o. unwrap_or o []) (bytes_run m a n ∙ c.in-Some.ensures.there)) in
    load_made c.args.register c.args.times c.args.rn a c.args.s.now c.args.vectors.now c.put.new.vectors c.args.pages.now (cc)
    (subst (λ (k : ℕ). access_fault None (at_base c.args.rn false (run_of a k)) c.args.s.now m ≡ None) size c.in-Some.ensures.allowed)
    (c.put.ensures ∙ ap (with_register c.args.vectors.now c.args.register) (read ∙ ap (λ k. read_bytes m (run_of a k)) size))
