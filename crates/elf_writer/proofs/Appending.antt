-- Bytes that are appended one after another.
use Rattle.std.proofs.Common.{◌≡◌, ℕ, List, [], ◌∷◌, ◌++◌, Result, Ok, Err, OnOk, IfOk, ap, sym, ◌∙◌, append_assoc}
use Rattle.elf_writer.specs.Layout.{fields_bytes}
use Rattle.elf_writer.proofs.Fields.{fields_bytes-append}

pub appended : (new mid start xs ys : List ℕ) → mid ≡ start ++ xs → new ≡ mid ++ ys → new ≡ start ++ (xs ++ ys)
appended new mid start xs ys a b = b ∙ ap (λ m. m ++ ys) a ∙ append_assoc start xs ys

pub appended_last : {T E : Type 0} (r : Result T E) (new mid start xs ys zs : List ℕ) → mid ≡ start ++ xs → zs ≡ xs ++ ys
    → OnOk r (new ≡ mid ++ ys) → OnOk r (new ≡ start ++ zs)
appended_last (Ok x) new mid start xs ys zs a e b = appended new mid start xs ys a b ∙ ap (λ z. start ++ z) (sym e)
appended_last (Err x) new mid start xs ys zs a e b = tt

pub fields_three : (a b c : List (ℕ × ℕ)) → fields_bytes (a ++ (b ++ c)) ≡ (fields_bytes a ++ fields_bytes b) ++ fields_bytes c
fields_three a b c = simp (fields_bytes-append, append_assoc)

pub fields_four : (a b c d : List (ℕ × ℕ)) → fields_bytes (a ++ (b ++ (c ++ d))) ≡ ((fields_bytes a ++ fields_bytes b) ++ fields_bytes c)
    ++ fields_bytes d
fields_four a b c d = simp (fields_bytes-append, append_assoc)

pub file_joined : (a b c d : List ℕ) → a ++ (b ++ (c ++ d)) ≡ ((a ++ b) ++ c) ++ d
file_joined a b c d = simp append_assoc

pub front_joined : (a b c d : List ℕ) → a ++ (b ++ (0 ∷ (c ++ d))) ≡ (((a ++ b) ++ (0 ∷ [])) ++ c) ++ d
front_joined a b c d = simp append_assoc

-- what follows from a result's value
pub if_ok-more : {T E : Type 0} (P Q : T → Type 0) (r : Result T E) → ((x : T) → P x → Q x) → IfOk r P → IfOk r Q
if_ok-more P Q (Ok x) f h = f x h
if_ok-more P Q (Err e) f h = tt
