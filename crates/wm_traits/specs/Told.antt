-- What an object of the outside tells of itself, or doesn't. What has ceased to tell doesn't begin again.
use Rattle.std.specs.Prelude.{◌≡◌, List, [], ◌++◌, Bool, true, false, Option, Some, None, IfSome, Contains, is_some, refl, ⊤, if◌then◌else◌}

-- where it is told, it has grown by these at its end
abbrev pub Grows : {A : Type 0} → Option (List A) → Option (List A) → List A → Type 0
Grows old None more = ⊤
Grows None (Some now) more = ⊥
Grows (Some before) (Some now) more = now ≡ before ++ more

-- where it is told, these were taken from its front
abbrev pub Takes : {A : Type 0} → Option (List A) → List A → Option (List A) → Type 0
Takes old taken None = ⊤
Takes None taken (Some now) = ⊥
Takes (Some before) taken (Some now) = before ≡ taken ++ now

-- where it is told, it has changed by this function
abbrev pub Becomes : {A : Type 0} → Option A → Option A → (A → A) → Type 0
Becomes old None change = ⊤
Becomes None (Some now) change = ⊥
Becomes (Some before) (Some now) change = now ≡ change before

-- where it is told, it is as it was
abbrev pub Stays : {A : Type 0} → Option A → Option A → Type 0
Stays old None = ⊤
Stays None (Some now) = ⊥
Stays (Some before) (Some now) = now ≡ before

-- where it is told, there is nothing in it
abbrev pub IsEmpty : {A : Type 0} → Option (List A) → Type 0
IsEmpty None = ⊤
IsEmpty (Some now) = now ≡ []

-- where both are told, each of the first list is in the second
abbrev pub AreAmong : {A : Type 0} → Option (List A) → Option (List A) → Type 0
AreAmong some all = IfSome some (λ xs. IfSome all (λ ys. (x : _) → Contains xs x → Contains ys x))

-- the value, while it is told
abbrev pub told_if : {A : Type 0} → Bool → A → Option A
told_if tells value = if tells then Some value else None

-- two values that are told together
pub told_with_out : {A B : Type 0} (tells : Bool) (a : A) (b : B) → is_some (told_if tells a) ≡ is_some (told_if tells b)
told_with_out true a b = refl
told_with_out false a b = refl
