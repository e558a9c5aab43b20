use Rattle.std.proofs.Common.{◌≡◌, ℕ, ◌≤◌, ◌^◌, List, length, ap, sym, ◌∙◌, arith}
use Rattle.paged_memory.specs.Memory.{bytes_with, first_without}
use Rattle.mem_access.specs.Runs.{with_bytes}
use Rattle.signal_frames.specs.Frame.{size_of, frame_address, frame_bytes, entered, with_frame}
use Rattle.mem_access.proofs.ReadBack.{read_back}
use Rattle.signal_frames.proofs.Round.{frame_numbers, long_frame, size_low}
use Rattle.signal_frames.proofs.laws.delivery_leaves_its_frame.Goals as goal

pub returns : goal.returns
unfolding entered with_frame
returns c = λ version masking vl signal handler s h readable.
    let a : ℕ = frame_address version vl s in
    let f : List ℕ = frame_bytes version masking vl signal s in
    let long : length f ≡ size_of version vl s =
    ap length (frame_numbers version masking vl signal s) ∙ long_frame version masking vl signal s h in
    let small : length f ≤ 2 ^ 64 = omega (arith, long, size_low version _ _ s.za_on h.small h.narrow) in
    ap (bytes_with 4 (with_bytes s.memory a f) a) (sym long)
    ∙ read_back s.memory a f (ap (first_without 4 s.memory a) long ∙ readable) small
