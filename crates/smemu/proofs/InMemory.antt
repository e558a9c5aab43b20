-- Where no fetch fails and there is room for the text, nothing but memory can be wanting.
use Rattle.std.proofs.Common.{◌≡◌, ◌⊎◌, inl, inr, ℕ, List, Option, Some, None, refl, false, true}
use Rattle.std.specs.Prelude.{IfSome, IsTrue}
use Rattle.command_lines.specs.declared.status.Status.{Status}
use Rattle.command_lines.specs.declared.status.Status.TheVariants.{ReadFault, WriteFault, OutOfMemory}
use Rattle.smemu.specs.Ends.{Call, IsDue, IsRefused, IsComplete, MayCome, HasRoom, LacksMemoryAlone}

module _ (c : Call) (reliable : IsTrue c.files.before.reliable) (room : HasRoom c) (files : List ℕ → Option (List ℕ)) where
  only_memory : (s : Status) → IsRefused c s → MayCome files c.words s → s ≡ OutOfMemory
  only_memory OutOfMemory h m = refl
  only_memory WriteFault h m = let fits : false ≡ true = (h.1.writes.accepts (room h.0 h.1.text h.1.defined)).0 in cc
  only_memory ReadFault h m = absurd (h.defined.stands.unreliable reliable)
  only_memory s h m = absurd m

  due_or_memory : (s : Status) → IsRefused c s → IsDue files c.words s ⊎ MayCome files c.words s
      → IsDue files c.words s ⊎ (s ≡ OutOfMemory)
  due_or_memory s h e = elim e [
    | inl due ↦ inl due
    | inr other ↦ inr (only_memory s h other)
  ]

pub lacks_memory_alone : (c : Call) (s : Status) → IsRefused c s → IsComplete c s → LacksMemoryAlone c s
lacks_memory_alone c s h complete = λ reliable room.
    elim c.files.before.told as (λ told. c.files.before.told ≡ told
    → IfSome told (λ files. IsDue files c.words s ⊎ (s ≡ OutOfMemory))) [
      | None ↦ λ e. tt
      | Some files ↦ λ e. due_or_memory c reliable room files s h (complete files e)
    ] refl
