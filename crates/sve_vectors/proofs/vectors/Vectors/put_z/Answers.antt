use Rattle.std.proofs.Common.{◌≡◌, ◌<◌, ℕ, ap, ◌∙◌, arith, length, take}
use Rattle.sve_vectors.specs.Layout.{room_of}
use Rattle.sve_vectors.specs.State.{SveState, with_vector, length_of}
use Rattle.sve_vectors.proofs.Held.{room_at}
use Rattle.sve_vectors.proofs.Whole.{vector_whole}
use Rattle.sve_vectors.proofs.vectors.Vectors.put_z.Goals as goal

pub swap_row-requires-clause-long : goal.swap_row-requires-clause-long
swap_row-requires-clause-long c =
    let v = c.self.inside in
    let lt : c.from.result < 32 = omega arith in
    let old = room_at v.z.items 32 _ c.from.result c.index.result.now c.self.invariant.vectors lt c.index.ensures in
    let same : length c.args.row.items ≡ room_of v.vl v.svl = omega (arith, old, c.args.row.ok.0, c.index.result.now.ok.0) in
    same ∙ ap (λ (s : SveState). room_of s.vl s.svl) c.self.view_is

pub returns-else-len : goal.returns-else-len
returns-else-len c =
    let length_is = c.self.invariant.current ∙ ap (λ (s : SveState). length_of s) c.self.view_is in
    vector_whole c.args.self.now c.args.n c.copy_from_slice.new.self (c.copy_from_slice.ensures.len ∙ ap length c.z_mut.ensures.value)
    ∙ ap (with_vector c.args.self.now c.args.n)
    (c.copy_from_slice.ensures.after ∙ ap (take c.self.inside.current) c.deref.ensures.value
    ∙ ap (λ (k : ℕ). take k c.args.row.items) length_is)
