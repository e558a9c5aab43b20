-- Options and results of which something is known.
use Rattle.std.proofs.Common.{◌≡◌, ◌≢◌, ◌⊎◌, Bool, true, false, cond, Option, Some, None, Result, Ok, Err, IsSome}
use Rattle.std.proofs.Common.{is_some, option_map, refl, inl, inr}
use Rattle.std.specs.Option.{option_or}

-- ---- two names of one value

pub same_Ok : {A E : Type 0} (x y : A) → ◌≡◌ {A = Result A E} (Ok x) (Ok y) → x ≡ y
same_Ok x y e = cc

pub same_Err : {A E : Type 0} (x y : E) → ◌≡◌ {A = Result A E} (Err x) (Err y) → x ≡ y
same_Err x y e = cc

pub one_Some : {A : Type 0} (o : Option A) (x y : A) → o ≡ Some x → o ≡ Some y → x ≡ y
one_Some o x y e h = cc

pub one_Ok : {A E : Type 0} (r : Result A E) (x y : A) → r ≡ Ok x → r ≡ Ok y → x ≡ y
one_Ok r x y e h = cc

-- ---- there or not

pub none_not_some : {A : Type 0} (o : Option A) (x : A) → o ≡ None → o ≡ Some x → ⊥
none_not_some o x e h = cc

pub is_some-false : {A : Type 0} (o : Option A) → is_some o ≡ false → o ≡ None
is_some-false None e = refl
is_some-false (Some x) e = cc

pub is_some-true : {A : Type 0} (o : Option A) → is_some o ≡ true → (x : A) × (o ≡ Some x)
is_some-true None e = absurd (cc)
is_some-true (Some x) e = (x, refl)

pub IsSome_from : {A : Type 0} (o : Option A) (x : A) → o ≡ Some x → IsSome o
IsSome_from o x e = rw e refl

-- ---- the first that is there

pub option_or-none : {A : Type 0} (o : Option A) → option_or o None ≡ o
option_or-none None = refl
option_or-none (Some x) = refl

pub option_or-assoc : {A : Type 0} (a b c : Option A) → option_or a (option_or b c) ≡ option_or (option_or a b) c
option_or-assoc None b c = refl
option_or-assoc (Some x) b c = refl

pub neither_some : {A : Type 0} (a b : Option A) → option_or a b ≡ None → (a ≡ None) × (b ≡ None)
neither_some None b e = (refl, e)
neither_some (Some x) b e = cc

pub first_none : {A : Type 0} (a b : Option A) → option_or a b ≡ None → a ≡ None
first_none None b e = refl
first_none (Some x) b e = e

pub second_none : {A : Type 0} (a b : Option A) → option_or a b ≡ None → b ≡ None
second_none None b e = e
second_none (Some x) b e = cc

pub either_some : {A : Type 0} (a b : Option A) (x : A) → option_or a b ≡ Some x → (a ≡ Some x) ⊎ (b ≡ Some x)
either_some None b x e = inr e
either_some (Some y) b x e = inl e

-- ---- one that a test gives

pub option_map-none : {A B : Type 0} (f : A → B) (o : Option A) → option_map f o ≡ None → o ≡ None
option_map-none f None e = refl
option_map-none f (Some x) e = cc

pub cond_none : {A : Type 0} (b : Bool) (x : A) (o : Option A) → cond b (Some x) o ≡ None → b ≡ false
cond_none true x o e = cc
cond_none false x o e = refl

pub cond_some_parts : {A : Type 0} (b : Bool) (o : Option A) (x : A) → cond b o None ≡ Some x → (b ≡ true) × (o ≡ Some x)
cond_some_parts true o x e = (refl, e)
cond_some_parts false o x e = cc

-- what options and results are of which something is known, as one set
pub ruleset option_parts = (same_Ok, same_Err, is_some-false, option_or-none, neither_some, either_some, cond_none, cond_some_parts)
