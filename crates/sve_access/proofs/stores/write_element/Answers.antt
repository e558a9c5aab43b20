use Rattle.std.proofs.Common.{◌≡◌, ◌+◌, ◌-◌, ◌*◌, ◌%◌, ◌^◌, length, take, drop, ap, ap₂, sym, ◌∙◌, arith}
use Rattle.vector_elements.specs.Elements.{is_active}
use Rattle.vector_elements.specs.Numbers.{bytes_in}
use Rattle.mem_access.specs.Runs.{with_bytes}
use Rattle.mem_access.proofs.Lists.{length-run}
use Rattle.sve_access.specs.Elements.{low_bytes}
use Rattle.sve_access.proofs.Kept.{same_length, below_count}
use Rattle.sve_access.proofs.Stored.{stored_one, stored_not}
use Rattle.sve_access.proofs.stores.write_element.Goals as goal

pub returns-then-is_active-clause-memory : goal.returns-then-is_active-clause-memory
returns-then-is_active-clause-memory c =
    let x = c.args.elements.now in
    let z = c.args.z.now in
    let i = c.args.i in
    let m = c.args.pages.now.memory in
    let first = c.bytes.result * i in
    let count = c.bytes-then-is_active.result in
    let bytes = take (first + count - first) (drop first z) in
    let many : first + count - first ≡ bytes_in x.memory = (let e = c.bytes-then-is_active.ensures in omega (arith, e)) in
    let is : bytes ≡ low_bytes z x.memory x.element i = ap₂ (λ k a. take k (drop a z)) many (ap (λ w. w * i) c.bytes.ensures) in
    let long : length bytes ≡ bytes_in x.memory =
    ap length is ∙ sym (same_length x.start z x.memory x.element i c.requires.narrow (below_count x.element i (length z) c.requires.within))
    ∙ length-run ((x.start + i * bytes_in x.memory) % 2 ^ 64) (bytes_in x.memory) in
    c.write_owned.ensures.memory ∙ ap (λ a. with_bytes m a bytes) c.address.ensures
    ∙ stored_one m x.start z x.memory x.element i (is_active (bytes_in x.element) x.pg.now i) bytes
    (sym c.is_active.ensures ∙ c.if-is_active.true) is long

pub returns-else-is_active-clause-memory : goal.returns-else-is_active-clause-memory
returns-else-is_active-clause-memory c =
    let x = c.args.elements.now in
    stored_not c.args.pages.now.memory x.start c.args.z.now x.memory x.element c.args.i (is_active (bytes_in x.element) x.pg.now c.args.i)
    (sym c.is_active.ensures ∙ c.if-is_active.false)
