-- Loads and stores of one register.
use Rattle.std.proofs.Common.{◌≡◌, false, refl, IsTrue}
use Rattle.sm_types.specs.declared.insn.LoadStoreOp.{LoadStoreOp}
use Rattle.sm_types.specs.declared.insn.LoadStoreOp.TheVariants.{Store, Load, LoadSignedTo64, LoadSignedTo32}
use Rattle.mem_access.specs.Access.{is_load, is_store}

-- what is no store is a load
pub no_store : (op : LoadStoreOp) → (op ≡ Store → ⊥) → is_store op ≡ false
no_store Store h = absurd (h refl)
no_store Load h = refl
no_store LoadSignedTo64 h = refl
no_store LoadSignedTo32 h = refl

pub a_load : (op : LoadStoreOp) → (op ≡ Store → ⊥) → IsTrue (is_load op)
a_load Store h = absurd (h refl)
a_load Load h = refl
a_load LoadSignedTo64 h = refl
a_load LoadSignedTo32 h = refl

pub loads_only : (op : LoadStoreOp) → IsTrue (is_load op) → is_store op ≡ false
loads_only Store h = cc
loads_only Load h = refl
loads_only LoadSignedTo64 h = refl
loads_only LoadSignedTo32 h = refl

pub stores_only : (op : LoadStoreOp) → IsTrue (is_store op) → op ≡ Store
stores_only Store h = refl
stores_only Load h = cc
stores_only LoadSignedTo64 h = cc
stores_only LoadSignedTo32 h = cc
