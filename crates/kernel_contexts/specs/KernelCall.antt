-- The calls of the kernel, and their numbers.
-- Source: the numbers are Linux's for AArch64 where it has such a call; the kernel is this emulator's own.
use Rattle.std.specs.Prelude.{ℕ, ◌==◌, cond}
use Rattle.sm_types.specs.declared.version.Version.{Version}
use Rattle.sm_types.specs.declared.version.Version.TheVariants.{One, Two}
use Rattle.kernel_contexts.specs.declared.kernel_call.KernelCall.{KernelCall}
use Rattle.kernel_contexts.specs.declared.kernel_call.KernelCall.TheVariants.{Write, Exit, Yield, Post}
use Rattle.kernel_contexts.specs.declared.kernel_call.KernelCall.TheVariants.{SetHandler, SetMask, Return, Number}
use Rattle.kernel_contexts.specs.declared.kernel_call.KernelCall.TheVariants.{Other}

-- write
abbrev pub write_number : ℕ
write_number = 64

-- post
abbrev pub post_number : ℕ
post_number = 131

-- return
abbrev pub return_number : ℕ
return_number = 139

-- the call that sets the mask, which version 1 does not have
abbrev pub mask_call : Version → KernelCall
mask_call One = Other
mask_call Two = SetMask

-- the call of a number: 93 is exit, 124 yield, 134 set handler, 135 set mask, 178 the thread's number
unfoldable pub call_numbered : Version → ℕ → KernelCall
call_numbered version number =
    cond (number == write_number) Write
    (cond (number == 93) Exit
    (cond (number == 124) Yield
    (cond (number == post_number) Post
    (cond (number == 134) SetHandler
    (cond (number == 135) (mask_call version)
    (cond (number == return_number) Return
    (cond (number == 178) Number
    Other)))))))
