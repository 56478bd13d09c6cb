-- What the changes of a rule flag, and which counters they forget.
use Rattle.std.proofs.Common.{◌≡◌, ◌⊎◌, inl, inr, ⊎_elim, ℕ, Bool, true, false, if◌then◌else◌, List, [], ◌∷◌, ◌++◌, map, nat_eq, Option, Some, None, refl, sym}
use Rattle.std.proofs.Common.{ap, subst, ◌∙◌, eqb-true, eq-eqb}
use Rattle.std.specs.Prelude.{⊤}
use Rattle.bl_graph_nodes.specs.Nodes.{Node}
use Rattle.bl_machine_laws.specs.Numbers.Waiting.{Is}
use Rattle.bl_machine_pass.specs.Registers.{Registers, all_changed, changed, with_at, with_flag}
use Rattle.bl_machine_pass.specs.Transitions.{Change, ClearsBoth, ClearsCounter, EndsWhen, Finishes, SetsCounter, SetsFlag, SetsMark}

-- ---- what changes do

-- the node that a change flags, where these are the marks
abbrev pub flagged_by : (Node → ℕ) → (ℕ → Bool) → Change → Option Node
flagged_by number marks (SetsFlag n) = Some n
flagged_by number marks (SetsCounter slot) = None
flagged_by number marks (ClearsCounter k) = None
flagged_by number marks (ClearsBoth k) = None
flagged_by number marks (SetsMark n) = None
flagged_by number marks (EndsWhen start surface depth) = Some (if marks (number start) then surface else depth)
flagged_by number marks Finishes = None

-- the marks that it leaves
abbrev pub marks_after : (Node → ℕ) → (ℕ → Bool) → Change → ℕ → Bool
marks_after number marks (SetsFlag n) = marks
marks_after number marks (SetsCounter slot) = marks
marks_after number marks (ClearsCounter k) = marks
marks_after number marks (ClearsBoth k) = marks
marks_after number marks (SetsMark n) = with_at (number n) true marks
marks_after number marks (EndsWhen start surface depth) = marks
marks_after number marks Finishes = marks

-- one of the changes flags the node
abbrev pub Sets : (Node → ℕ) → (ℕ → Bool) → List Change → Node → Type 0
Sets number marks [] y = ⊥
Sets number marks (change ∷ rest) y = Is (flagged_by number marks change) y ⊎ Sets number (marks_after number marks change) rest y

-- a change forgets what the counter held
abbrev pub Forget : Change → ℕ → Type 0
Forget (SetsFlag n) j = ⊥
Forget (SetsCounter slot) j = ⊥
Forget (ClearsCounter k) j = ⊥
Forget (ClearsBoth k) j = j ≡ k
Forget (SetsMark n) j = ⊥
Forget (EndsWhen start surface depth) j = ⊥
Forget Finishes j = ⊥

-- one of the changes does
abbrev pub AllForget : List Change → ℕ → Type 0
AllForget [] j = ⊥
AllForget (change ∷ rest) j = Forget change j ⊎ AllForget rest j

-- ---- functions with another value at one number

pub here_is : {X : Type 0} (k : ℕ) (x : X) (f : ℕ → X) → with_at k x f k ≡ x
here_is k x f = ap (λ b. if b then x else f k) (eq-eqb k k refl)

at_test : {X : Type 0} (k j : ℕ) (x : X) (f : ℕ → X) (b : Bool) → nat_eq j k ≡ b → (with_at k x f j ≡ x) × (j ≡ k)
    ⊎ (with_at k x f j ≡ f j)
at_test k j x f true e = inl (ap (λ b. if b then x else f j) e, eqb-true j k e)
at_test k j x f false e = inr (ap (λ b. if b then x else f j) e)

-- it is the new value, at the number, or the value that was there
pub at_either : {X : Type 0} (k j : ℕ) (x : X) (f : ℕ → X) → (with_at k x f j ≡ x) × (j ≡ k) ⊎ (with_at k x f j ≡ f j)
at_either k j x f = at_test k j x f (nat_eq j k) refl

-- ---- marks

ends_marks : (k m : ℕ) (r : Registers) (b : Bool) → (if b then with_flag k r else with_flag m r).marks ≡ r.marks
ends_marks k m r true = refl
ends_marks k m r false = refl

pub marks_changed : (number : Node → ℕ) (change : Change) (r : Registers) → (changed number change r).marks ≡ marks_after number r.marks change
marks_changed number (SetsFlag n) r = refl
marks_changed number (SetsCounter slot) r = refl
marks_changed number (ClearsCounter k) r = refl
marks_changed number (ClearsBoth k) r = refl
marks_changed number (SetsMark n) r = refl
marks_changed number (EndsWhen start surface depth) r = ends_marks (number surface) (number depth) r (r.marks (number start))
marks_changed number Finishes r = refl

-- ---- flags

-- a flag that is set afterwards was set before, or one of a node that is flagged
pub data FlagFrom (number : Node → ℕ) (Set : Node → Type 0) (before : Bool) (k : ℕ) : Type 0 where
  was_set : before ≡ true → FlagFrom number Set before k
  is_of : (y : Node) → Set y → k ≡ number y → FlagFrom number Set before k

with_flag_set : (number : Node → ℕ) (y : Node) (r : Registers) (k : ℕ) → (with_flag (number y) r).flags k ≡ true →
    FlagFrom number (λ z. z ≡ y) (r.flags k) k
with_flag_set number y r k e =
    ⊎_elim (λ is. is_of y refl is.1) (λ (is : with_at (number y) true r.flags k ≡ r.flags k). was_set (sym is ∙ e))
    (at_either (number y) k true r.flags)

ends_flag_set : (number : Node → ℕ) (surface depth : Node) (r : Registers) (k : ℕ) (b : Bool) →
    (if b then with_flag (number surface) r else with_flag (number depth) r).flags k ≡ true →
    FlagFrom number (λ z. z ≡ (if b then surface else depth)) (r.flags k) k
ends_flag_set number surface depth r k true e = with_flag_set number surface r k e
ends_flag_set number surface depth r k false e = with_flag_set number depth r k e

one_set : (number : Node → ℕ) (change : Change) (r : Registers) (k : ℕ) → (changed number change r).flags k ≡ true →
    FlagFrom number (Is (flagged_by number r.marks change)) (r.flags k) k
one_set number (SetsFlag n) r k e = with_flag_set number n r k e
one_set number (SetsCounter slot) r k e = was_set e
one_set number (ClearsCounter j) r k e = was_set e
one_set number (ClearsBoth j) r k e = was_set e
one_set number (SetsMark n) r k e = was_set e
one_set number (EndsWhen start surface depth) r k e = ends_flag_set number surface depth r k (r.marks (number start)) e
one_set number Finishes r k e = was_set e

pub all_set : (number : Node → ℕ) (changes : List Change) (r : Registers) (k : ℕ) → (all_changed number changes r).flags k ≡ true →
    FlagFrom number (Sets number r.marks changes) (r.flags k) k
all_set number [] r k e = was_set e
all_set number (change ∷ rest) r k e = by_rest (all_set number rest (changed number change r) k e)
  where
    by_one : FlagFrom number (Is (flagged_by number r.marks change)) (r.flags k) k → FlagFrom number (Sets number r.marks (change ∷ rest)) (r.flags k) k
    by_one (was_set before) = was_set before
    by_one (is_of y set at) = is_of y (inl set) at

    by_rest : FlagFrom number (Sets number (changed number change r).marks rest) ((changed number change r).flags k) k →
        FlagFrom number (Sets number r.marks (change ∷ rest)) (r.flags k) k
    by_rest (was_set before) = by_one (one_set number change r k before)
    by_rest (is_of y set at) = is_of y (inr (subst (λ marks. Sets number marks rest y) (marks_changed number change r) set)) at

-- a flag that was set stays so
with_flag_kept : (j : ℕ) (r : Registers) (k : ℕ) → r.flags k ≡ true → (with_flag j r).flags k ≡ true
with_flag_kept j r k e = ⊎_elim (λ is. is.0) (λ (is : with_at j true r.flags k ≡ r.flags k). is ∙ e) (at_either j k true r.flags)

ends_flag_kept : (i j : ℕ) (r : Registers) (k : ℕ) (b : Bool) → r.flags k ≡ true → (if b then with_flag i r else with_flag j r).flags k ≡ true
ends_flag_kept i j r k true e = with_flag_kept i r k e
ends_flag_kept i j r k false e = with_flag_kept j r k e

one_kept : (number : Node → ℕ) (change : Change) (r : Registers) (k : ℕ) → r.flags k ≡ true → (changed number change r).flags k ≡ true
one_kept number (SetsFlag n) r k e = with_flag_kept (number n) r k e
one_kept number (SetsCounter slot) r k e = e
one_kept number (ClearsCounter j) r k e = e
one_kept number (ClearsBoth j) r k e = e
one_kept number (SetsMark n) r k e = e
one_kept number (EndsWhen start surface depth) r k e = ends_flag_kept (number surface) (number depth) r k (r.marks (number start)) e
one_kept number Finishes r k e = e

pub all_kept : (number : Node → ℕ) (changes : List Change) (r : Registers) (k : ℕ) → r.flags k ≡ true →
    (all_changed number changes r).flags k ≡ true
all_kept number [] r k e = e
all_kept number (change ∷ rest) r k e = all_kept number rest (changed number change r) k (one_kept number change r k e)

-- what is flagged has its flag
with_flag_has : (number : Node → ℕ) (n y : Node) (r : Registers) → y ≡ n → (with_flag (number n) r).flags (number y) ≡ true
with_flag_has number n y r is = subst (λ z. with_at (number n) true r.flags (number z) ≡ true) (sym is) (here_is (number n) true r.flags)

ends_flag_has : (number : Node → ℕ) (surface depth y : Node) (r : Registers) (b : Bool) → y ≡ (if b then surface else depth) →
    (if b then with_flag (number surface) r else with_flag (number depth) r).flags (number y) ≡ true
ends_flag_has number surface depth y r true is = with_flag_has number surface y r is
ends_flag_has number surface depth y r false is = with_flag_has number depth y r is

one_has : (number : Node → ℕ) (change : Change) (r : Registers) (y : Node) → Is (flagged_by number r.marks change) y →
    (changed number change r).flags (number y) ≡ true
one_has number (SetsFlag n) r y is = with_flag_has number n y r is
one_has number (SetsCounter slot) r y is = absurd is
one_has number (ClearsCounter j) r y is = absurd is
one_has number (ClearsBoth j) r y is = absurd is
one_has number (SetsMark n) r y is = absurd is
one_has number (EndsWhen start surface depth) r y is = ends_flag_has number surface depth y r (r.marks (number start)) is
one_has number Finishes r y is = absurd is

pub all_has : (number : Node → ℕ) (changes : List Change) (r : Registers) (y : Node) → Sets number r.marks changes y →
    (all_changed number changes r).flags (number y) ≡ true
all_has number [] r y set = absurd set
all_has number (change ∷ rest) r y (inl is) = all_kept number rest (changed number change r) (number y) (one_has number change r y is)
all_has number (change ∷ rest) r y (inr set) =
    all_has number rest (changed number change r) y (subst (λ marks. Sets number marks rest y) (sym (marks_changed number change r)) set)

-- ---- what rested

ends_rested : (i j : ℕ) (r : Registers) (b : Bool) → (if b then with_flag i r else with_flag j r).rested ≡ r.rested
ends_rested i j r true = refl
ends_rested i j r false = refl

-- a counter that is not forgotten holds what it held
one_spared : (number : Node → ℕ) (change : Change) (r : Registers) (j : ℕ) → (Forget change j → ⊥) → (changed number change r).rested j
    ≡ r.rested j
one_spared number (SetsFlag n) r j spared = refl
one_spared number (SetsCounter slot) r j spared = refl
one_spared number (ClearsCounter k) r j spared = refl
one_spared number (ClearsBoth k) r j spared = ⊎_elim (λ is. absurd (spared is.1)) (λ (is : with_at k 0 r.rested j ≡ r.rested j). is)
    (at_either k j 0 r.rested)
one_spared number (SetsMark n) r j spared = refl
one_spared number (EndsWhen start surface depth) r j spared =
    ap (λ rested. rested j) (ends_rested (number surface) (number depth) r (r.marks (number start)))
one_spared number Finishes r j spared = refl

pub all_spared : (number : Node → ℕ) (changes : List Change) (r : Registers) (j : ℕ) → (AllForget changes j → ⊥) →
    (all_changed number changes r).rested j ≡ r.rested j
all_spared number [] r j spared = refl
all_spared number (change ∷ rest) r j spared =
    all_spared number rest (changed number change r) j (λ forgotten. spared (inr forgotten))
    ∙ one_spared number change r j (λ forgotten. spared (inl forgotten))

-- one that is holds nothing
one_forgets : (number : Node → ℕ) (change : Change) (r : Registers) (j : ℕ) → Forget change j → (changed number change r).rested j ≡ 0
one_forgets number (SetsFlag n) r j is = absurd is
one_forgets number (SetsCounter slot) r j is = absurd is
one_forgets number (ClearsCounter k) r j is = absurd is
one_forgets number (ClearsBoth k) r j is = subst (λ m. with_at k 0 r.rested m ≡ 0) (sym is) (here_is k 0 r.rested)
one_forgets number (SetsMark n) r j is = absurd is
one_forgets number (EndsWhen start surface depth) r j is = absurd is
one_forgets number Finishes r j is = absurd is

-- each counter holds what it held, or nothing
one_either : (number : Node → ℕ) (change : Change) (r : Registers) (j : ℕ) →
    ((changed number change r).rested j ≡ 0) ⊎ ((changed number change r).rested j ≡ r.rested j)
one_either number (SetsFlag n) r j = inr refl
one_either number (SetsCounter slot) r j = inr refl
one_either number (ClearsCounter k) r j = inr refl
one_either number (ClearsBoth k) r j = ⊎_elim (λ is. inl is.0) (λ (is : with_at k 0 r.rested j ≡ r.rested j). inr is) (at_either k j 0 r.rested)
one_either number (SetsMark n) r j = inr refl
one_either number (EndsWhen start surface depth) r j =
    inr (ap (λ rested. rested j) (ends_rested (number surface) (number depth) r (r.marks (number start))))
one_either number Finishes r j = inr refl

pub all_either : (number : Node → ℕ) (changes : List Change) (r : Registers) (j : ℕ) →
    ((all_changed number changes r).rested j ≡ 0) ⊎ ((all_changed number changes r).rested j ≡ r.rested j)
all_either number [] r j = inr refl
all_either number (change ∷ rest) r j =
    ⊎_elim (λ (is : (all_changed number rest (changed number change r)).rested j ≡ 0). inl is)
    (λ (is : (all_changed number rest (changed number change r)).rested j ≡ (changed number change r).rested j).
    ⊎_elim (λ (none : (changed number change r).rested j ≡ 0). inl (is ∙ none))
    (λ (same : (changed number change r).rested j ≡ r.rested j). inr (is ∙ same)) (one_either number change r j))
    (all_either number rest (changed number change r) j)

-- what holds nothing goes on so
still_none : (number : Node → ℕ) (changes : List Change) (r : Registers) (j : ℕ) → r.rested j ≡ 0 → (all_changed number changes r).rested j ≡ 0
still_none number changes r j e =
    ⊎_elim (λ is. is) (λ (is : (all_changed number changes r).rested j ≡ r.rested j). is ∙ e) (all_either number changes r j)

pub all_forget : (number : Node → ℕ) (changes : List Change) (r : Registers) (j : ℕ) → AllForget changes j →
    (all_changed number changes r).rested j ≡ 0
all_forget number [] r j is = absurd is
all_forget number (change ∷ rest) r j (inl is) = still_none number rest (changed number change r) j (one_forgets number change r j is)
all_forget number (change ∷ rest) r j (inr is) = all_forget number rest (changed number change r) j is

-- ---- lists of changes

-- they flag this node alone, where there is one
abbrev pub SetsAs : (Node → ℕ) → (ℕ → Bool) → List Change → Option Node → Type 0
SetsAs number marks changes next = ((y : Node) → Sets number marks changes y → Is next y) × ((y : Node) → Is next y → Sets number marks changes y)

-- and forget nothing
abbrev pub Forgetless : List Change → Type 0
Forgetless changes = (j : ℕ) → AllForget changes j → ⊥

-- what may follow a part: none of its own doings
abbrev pub IsNext : Change → Type 0
IsNext (SetsFlag n) = ⊤
IsNext (SetsCounter slot) = ⊤
IsNext (ClearsCounter k) = ⊥
IsNext (ClearsBoth k) = ⊥
IsNext (SetsMark n) = ⊥
IsNext (EndsWhen start surface depth) = ⊤
IsNext Finishes = ⊤

next_forgets : (change : Change) (j : ℕ) → IsNext change → Forget change j → ⊥
next_forgets (SetsFlag n) j next is = is
next_forgets (SetsCounter slot) j next is = is
next_forgets (ClearsCounter k) j next is = is
next_forgets (ClearsBoth k) j next is = next
next_forgets (SetsMark n) j next is = is
next_forgets (EndsWhen start surface depth) j next is = is
next_forgets Finishes j next is = is

pub one_forgetless : (change : Change) → IsNext change → Forgetless (change ∷ [])
one_forgetless change next j (inl is) = next_forgets change j next is
one_forgetless change next j (inr is) = is

pub sets_none : (number : Node → ℕ) (marks : ℕ → Bool) → SetsAs number marks [] None
sets_none number marks = (λ y set. set, λ y is. is)

pub sets_one : (number : Node → ℕ) (marks : ℕ → Bool) (change : Change) (next : Option Node) → flagged_by number marks change ≡ next →
    SetsAs number marks (change ∷ []) next
sets_one number marks change next agrees = (
  λ y set. ⊎_elim (λ (is : Is (flagged_by number marks change) y). subst (λ one. Is one y) agrees is) (λ none. absurd none) set,
  λ y is. inl (subst (λ one. Is one y) (sym agrees) is),
)

-- a counter is freed first
sets_freed : (number : Node → ℕ) (marks : ℕ → Bool) (k : ℕ) (changes : List Change) (next : Option Node) → SetsAs number marks changes next →
    SetsAs number marks (ClearsCounter k ∷ changes) next
sets_freed number marks k changes next sets =
    (λ y set. ⊎_elim (λ none. absurd none) (λ (is : Sets number marks changes y). sets.0 y is) set, λ y is. inr (sets.1 y is))

freed_forgetless : (k : ℕ) (changes : List Change) → Forgetless changes → Forgetless (ClearsCounter k ∷ changes)
freed_forgetless k changes none j (inl is) = is
freed_forgetless k changes none j (inr is) = none j is

-- counters are
pub sets_all_freed : (number : Node → ℕ) (marks : ℕ → Bool) (ks : List ℕ) (changes : List Change) (next : Option Node) →
    SetsAs number marks changes next → SetsAs number marks (map ClearsCounter ks ++ changes) next
sets_all_freed number marks [] changes next sets = sets
sets_all_freed number marks (k ∷ ks) changes next sets =
    sets_freed number marks k (map ClearsCounter ks ++ changes) next (sets_all_freed number marks ks changes next sets)

pub all_freed_forgetless : (ks : List ℕ) (changes : List Change) → Forgetless changes → Forgetless (map ClearsCounter ks ++ changes)
all_freed_forgetless [] changes none = none
all_freed_forgetless (k ∷ ks) changes none = freed_forgetless k (map ClearsCounter ks ++ changes) (all_freed_forgetless ks changes none)

-- counters are forgotten first
pub sets_all_forgotten : (number : Node → ℕ) (marks : ℕ → Bool) (ks : List ℕ) (changes : List Change) (next : Option Node) →
    SetsAs number marks changes next → SetsAs number marks (map ClearsBoth ks ++ changes) next
sets_all_forgotten number marks [] changes next sets = sets
sets_all_forgotten number marks (k ∷ ks) changes next sets =
    let rest = sets_all_forgotten number marks ks changes next sets in
    (λ y set. ⊎_elim (λ none. absurd none) (λ (is : Sets number marks (map ClearsBoth ks ++ changes) y). rest.0 y is) set, λ y is. inr (rest.1 y is))
