-- The functions of a well-formed file in a C text and over numbered cells.
use Rattle.std.proofs.Common.{◌≡◌, ℕ, suc, ◌-◌, ◌≤◌, Bool, true, false, ◌&&◌, List, [], ◌∷◌, ◌++◌, map, length, drop, Option, Some, None, refl, ap}
use Rattle.std.proofs.Common.{sym, subst, ◌∙◌, arith}
use Rattle.std.specs.Prelude.{unwrap_or, bytes_eq, is_some, is_none, nat_lt, codes, if◌then◌else◌}
use Rattle.std.specs.Option.{option_or}
use Rattle.std.proofs.lemmas.Slice.Eq.{bytes_eq-Decides}
use Rattle.bl_tree.proofs.Basics.{and_first, and_second, first_empty, same_some, second_empty}
use Rattle.bl_tree.specs.declared.text.Text.{Text}
use Rattle.bl_tree.specs.declared.place.Place.{Place}
use Rattle.bl_tree.specs.declared.scalar.Scalar.TheVariants.{Nat}
use Rattle.bl_tree.specs.declared.scalar.Width.TheVariants.{W32}
use Rattle.bl_tree.specs.declared.c.CFunc.{CFunc}
use Rattle.bl_tree.specs.Reduce.{all_of, greatest}
use Rattle.bl_ctext.specs.Spellable.{spells_func}
use Rattle.bl_ctext_semantics.specs.Meaning.{Meaning, function_c, meanings_after}
use Rattle.bl_ctext_semantics.specs.Sizes.{chain_cells, chains_after, sizes}
use Rattle.bl_ctext_semantics.specs.Tables.{Table, entry_or, found, with_entry}
use Rattle.bl_ctext_semantics.specs.Faults.{Fault, Signature, depth_of_function, faults_in_function, faults_of_two, function_faults_after, gives}
use Rattle.bl_ctext_semantics.specs.Faults.{init_faults, init_params, interface_faults, interface_functions, last_two, signature_in, struct_table}
use Rattle.bl_ctext_semantics.specs.Faults.{tick_faults, tick_params, unless}
use Rattle.bl_ctext_semantics.specs.Parts.{Parts}
use Rattle.bl_ctext_semantics_laws.specs.Layout.{capped_sizes, layouts}
use Rattle.bl_ctext_semantics_laws.specs.Flat.{Routine, routine_flat, routines_after}
use Rattle.bl_ctext_semantics_laws.proofs.Faultless.{unless-nil}
use Rattle.bl_ctext_semantics_laws.proofs.Ways.{Shaped, Structs}
use Rattle.bl_ctext_semantics_laws.proofs.Running.{Agrees, FunctionAs, Keeps}
use Rattle.bl_ctext_semantics_laws.proofs.Layouts.{lists_of}
use Rattle.bl_ctext_semantics_laws.proofs.Functions.{FunctionsAs, function-agrees, function-keeps, sound}

-- the functions by name
abbrev pub named : List CFunc → List (Text × CFunc)
named fs = map (λ f. (f.name, f)) fs

-- ---- a function of a name that is there comes no more

kept-entry : {A : Type 0} (o : Option A) (b : Bool) (v : A) → is_some o ≡ true → is_some (option_or o (if b then Some v else None)) ≡ true
kept-entry (Some x) b v h = refl
kept-entry None b v h = cc

added-entry : {A : Type 0} (o : Option A) (b : Bool) (v : A) → b ≡ true → is_some (option_or o (if b then Some v else None)) ≡ true
added-entry (Some x) b v h = refl
added-entry None true v h = refl
added-entry None false v h = cc

not-both : {A : Type 0} (o : Option A) → is_some o ≡ true → is_none o ≡ true → ⊥
not-both (Some u) h k = let x : false ≡ true = k in cc
not-both None h k = let x : false ≡ true = h in cc

absent : (structs : Structs) (functions : Table Signature) (depths : Table ℕ) (name : Text) (fs : List CFunc) → is_some (functions name) ≡ true →
    function_faults_after structs functions depths fs ≡ [] →
    found name (named fs) ≡ None
absent structs functions depths name [] there none = refl
absent structs functions depths name (f ∷ fs) there none =
    chosen (bytes_eq f.name name) refl
    (absent structs (with_entry functions f.name (signature_in f)) (with_entry depths f.name (depth_of_function depths f)) name fs
    (kept-entry (functions name) (bytes_eq f.name name) (signature_in f) there)
    (second_empty (faults_in_function structs functions depths (nat_lt (length fs) 2) f) _ none))
  where
    chosen : (b : Bool) → bytes_eq f.name name ≡ b → found name (named fs) ≡ None → (if b then Some f else found name (named fs)) ≡ None
    chosen false is rest = rest
    chosen true is rest =
        let s = sound structs functions depths (nat_lt (length fs) 2) f (first_empty _ _ none) in
        absurd (not-both (functions name) there (subst (λ n. is_none (functions n) ≡ true) ((bytes_eq-Decides f.name name).0 is) s.fresh))

-- ---- the last function

-- the last of these is bl_tick
abbrev pub LastTick : List CFunc → Type 0
LastTick [] = ⊥
LastTick (f ∷ []) = bytes_eq f.name (codes "bl_tick") ≡ true
LastTick (f ∷ g ∷ fs) = LastTick (g ∷ fs)

tick-there : (fs : List CFunc) → LastTick fs → is_some (found (codes "bl_tick") (named fs)) ≡ true
tick-there [] last = absurd last
tick-there (f ∷ []) last = ap (λ b. is_some (if b then Some f else None)) last
tick-there (f ∷ g ∷ fs) last = either (bytes_eq f.name (codes "bl_tick")) f (found (codes "bl_tick") (named (g ∷ fs))) (tick-there (g ∷ fs) last)
  where
    either : (b : Bool) (f : CFunc) (o : Option CFunc) → is_some o ≡ true → is_some (if b then Some f else o) ≡ true
    either true f o h = refl
    either false f o h = h

none-some : {A : Type 0} (o : Option A) → o ≡ None → is_some o ≡ true → ⊥
none-some None h k = let x : false ≡ true = k in cc
none-some (Some x) h k = cc

-- no function before the last is bl_tick
not-tick : (structs : Structs) (functions : Table Signature) (depths : Table ℕ) (f g : CFunc) (fs : List CFunc) →
    function_faults_after structs functions depths (f ∷ g ∷ fs) ≡ [] → LastTick (g ∷ fs) →
    bytes_eq f.name (codes "bl_tick") ≡ false
not-tick structs functions depths f g fs none last = chosen (bytes_eq f.name (codes "bl_tick")) refl
  where
    chosen : (b : Bool) → bytes_eq f.name (codes "bl_tick") ≡ b → b ≡ false
    chosen false is = refl
    chosen true is =
        absurd (none-some (found (codes "bl_tick") (named (g ∷ fs)))
        (absent structs (with_entry functions f.name (signature_in f)) (with_entry depths f.name (depth_of_function depths f)) (codes "bl_tick") (g ∷ fs)
        (added-entry (functions (codes "bl_tick")) (bytes_eq f.name (codes "bl_tick")) (signature_in f) is)
        (second_empty (faults_in_function structs functions depths (nat_lt (length (g ∷ fs)) 2) f) _ none))
        (tick-there (g ∷ fs) last))

-- ---- all functions

module _ (file : Parts) (shaped : Shaped (sizes file.structs) (lists_of file.structs) (struct_table file.structs)) (limit : ℕ)
    (small : limit ≤ 1000000) where
  abbrev Knows : Table Signature → Table Meaning → Table Routine → Table ℕ → Type 0
  Knows = FunctionsAs file shaped limit small

  -- both tables have the same names
  pub record Together (functions : Table Signature) (meanings : Table Meaning) (routines : Table Routine) (chains : Table ℕ) : Type 0 where
    pub a : (name : Text) → is_some (meanings name) ≡ is_some (functions name)
    pub b : (name : Text) → is_some (routines name) ≡ is_some (functions name)
    pub c : (name : Text) → is_some (chains name) ≡ is_some (functions name)

  or-together : {A B : Type 0} (a : Option A) (b : Option B) (same : Bool) (v : A) (w : B) → is_some a ≡ is_some b →
      is_some (option_or a (if same then Some v else None)) ≡ is_some (option_or b (if same then Some w else None))
  or-together (Some a) (Some b) same v w h = refl
  or-together (Some a) None same v w h = cc
  or-together None (Some b) same v w h = cc
  or-together None None true v w h = refl
  or-together None None false v w h = refl

  none-of : {A : Type 0} (o : Option A) → is_some o ≡ false → o ≡ None
  none-of None h = refl
  none-of (Some x) h = cc

  module _ (functions : Table Signature) (meanings : Table Meaning) (routines : Table Routine) (chains : Table ℕ)
      (together : Together functions meanings routines chains) (knows : Knows functions meanings routines chains) (f : CFunc)
      (m : Meaning) (r : Routine) (room : ℕ)
      (agrees : Agrees (sizes file.structs) (lists_of file.structs) (struct_table file.structs) shaped limit m r (signature_in f) room)
      (keeps : Keeps m (signature_in f)) where
    together-next : Together (with_entry functions f.name (signature_in f)) (with_entry meanings f.name m) (with_entry routines f.name r)
        (with_entry chains f.name room)
    together-next = record {
      a = λ name. or-together (meanings name) (functions name) (bytes_eq f.name name) m (signature_in f) (together.a name);
      b = λ name. or-together (routines name) (functions name) (bytes_eq f.name name) r (signature_in f) (together.b name);
      c = λ name. or-together (chains name) (functions name) (bytes_eq f.name name) room (signature_in f) (together.c name);
    }

    old-kept : {A : Type 0} (o : Option A) (b : Bool) (v : A) → is_some o ≡ true → option_or o (if b then Some v else None) ≡ o
    old-kept (Some x) b v h = refl
    old-kept None b v h = cc

    first-now : {A : Type 0} (o : Option A) (b : Bool) (v : A) → o ≡ None → b ≡ true → option_or o (if b then Some v else None) ≡ Some v
    first-now None true v h k = refl
    first-now None false v h k = cc
    first-now (Some x) b v h k = cc

    knows-next : Knows (with_entry functions f.name (signature_in f)) (with_entry meanings f.name m) (with_entry routines f.name r)
        (with_entry chains f.name room)
    knows-next name s is = chosen (functions name) refl is
      where
        chosen : (o : Option Signature) → functions name ≡ o → option_or o (if bytes_eq f.name name then Some (signature_in f) else None) ≡ Some s →
            FunctionAs (sizes file.structs) (lists_of file.structs) (struct_table file.structs) shaped limit s (with_entry meanings f.name m name)
            (with_entry routines f.name r name) (entry_or 0 (with_entry chains f.name room) name)
        chosen (Some old) there h =
            let k = knows name s (there ∙ h) in
            let has : is_some (functions name) ≡ true = ap is_some there in
            let chain : with_entry chains f.name room name ≡ chains name = old-kept (chains name) (bytes_eq f.name name) room (together.c name ∙ has) in
            subst (λ o. FunctionAs (sizes file.structs) (lists_of file.structs) (struct_table file.structs) shaped limit s (with_entry meanings f.name m name)
            (with_entry routines f.name r name) (unwrap_or o 0)) (sym chain)
            (record {
              c = k.c;
              is = old-kept (meanings name) (bytes_eq f.name name) m (together.a name ∙ has) ∙ k.is;
              flat = k.flat;
              also = old-kept (routines name) (bytes_eq f.name name) r (together.b name ∙ has) ∙ k.also;
              agrees = k.agrees;
              keeps = k.keeps;
              plain = k.plain;
            })
        chosen None there h = new (bytes_eq f.name name) refl h
          where
            new : (b : Bool) → bytes_eq f.name name ≡ b → (if b then Some (signature_in f) else None) ≡ Some s →
                FunctionAs (sizes file.structs) (lists_of file.structs) (struct_table file.structs) shaped limit s (with_entry meanings f.name m name)
                (with_entry routines f.name r name) (entry_or 0 (with_entry chains f.name room) name)
            new false same h = cc
            new true same h =
                let lacks : is_some (functions name) ≡ false = ap is_some there in
                let e : signature_in f ≡ s = same_some (signature_in f) s h in
                let chain : with_entry chains f.name room name ≡ Some room =
                first-now (chains name) (bytes_eq f.name name) room (none-of (chains name) (together.c name ∙ lacks)) same in
                subst (λ o. FunctionAs (sizes file.structs) (lists_of file.structs) (struct_table file.structs) shaped limit s
                (with_entry meanings f.name m name) (with_entry routines f.name r name) (unwrap_or o 0)) (sym chain)
                (subst (λ x. FunctionAs (sizes file.structs) (lists_of file.structs) (struct_table file.structs) shaped limit x
                (with_entry meanings f.name m name) (with_entry routines f.name r name) room) e
                (record {
                  c = m;
                  is = first-now (meanings name) (bytes_eq f.name name) m (none-of (meanings name) (together.a name ∙ lacks)) same;
                  flat = r;
                  also = first-now (routines name) (bytes_eq f.name name) r (none-of (routines name) (together.b name ∙ lacks)) same;
                  agrees = agrees;
                  keeps = keeps;
                  plain = refl;
                }))

  -- a function of the file in both
  pub record FoundAs (f : CFunc) (m : Option Meaning) (r : Option Routine) (chains : List ℕ) : Type 0 where
    pub c : Meaning
    pub is : m ≡ Some c
    pub flat : Routine
    pub also : r ≡ Some flat
    pub room : ℕ
    pub least : room ≤ greatest chains
    pub agrees : Agrees (sizes file.structs) (lists_of file.structs) (struct_table file.structs) shaped limit c flat (signature_in f) room

  this-or : (b : Bool) (f g : CFunc) (o : Option CFunc) (m : Meaning) (r : Routine) (n : ℕ) (ms : Option Meaning)
      (rs : Option Routine) (chains : List ℕ) →
      Agrees (sizes file.structs) (lists_of file.structs) (struct_table file.structs) shaped limit m r (signature_in f) n →
      (if b then Some f else o) ≡ Some g → (o ≡ Some g → FoundAs g ms rs chains) →
      FoundAs g (if b then Some m else ms) (if b then Some r else rs) (n ∷ chains)
  this-or true f g o m r n ms rs chains agrees is rest =
      let e : f ≡ g = same_some f g is in
      record {
        c = m;
        is = refl;
        flat = r;
        also = refl;
        room = n;
        least = omega arith;
        agrees = subst
            (λ x. Agrees (sizes file.structs) (lists_of file.structs) (struct_table file.structs) shaped limit m r (signature_in x) n) e agrees;
      }
  this-or false f g o m r n ms rs chains agrees is rest =
      let k = rest is in
      record { c = k.c; is = k.is; flat = k.flat; also = k.also; room = k.room; least = let l = k.least in omega arith; agrees = k.agrees }

  pub functions-found : (functions : Table Signature) (depths : Table ℕ) (meanings : Table Meaning) (routines : Table Routine) (chains : Table ℕ)
      (fs : List CFunc) → Together functions meanings routines chains →
      Knows functions meanings routines chains → function_faults_after (struct_table file.structs) functions depths fs ≡ [] →
      all_of (map spells_func fs) ≡ true → LastTick fs →
      (name : Text) (g : CFunc) → found name (named fs) ≡ Some g →
      FoundAs g (found name (meanings_after meanings fs)) (found name (routines_after (capped_sizes file.structs) (layouts file.structs) routines fs))
      (chains_after (sizes file.structs) chains fs)
  functions-found functions depths meanings routines chains [] together knows none spelled last name g there = absurd last
  functions-found functions depths meanings routines chains (f ∷ []) together knows none spelled last name g there =
      let s = sound (struct_table file.structs) functions depths (nat_lt 0 2) f (first_empty _ _ none) in
      this-or (bytes_eq f.name name) f g None (function_c meanings f) (routine_flat (capped_sizes file.structs) (layouts file.structs) routines f)
      (chain_cells (sizes file.structs) chains f) None None []
      (function-agrees file shaped limit small functions meanings routines chains f s (and_first _ _ spelled) knows) there
      (λ later. absurd (let x : is_some (Some g) ≡ false = ap is_some (sym later) in let y : true ≡ false = x in cc))
  functions-found functions depths meanings routines chains (f ∷ h ∷ fs) together knows none spelled last name g there =
      let s = sound (struct_table file.structs) functions depths (nat_lt (length (h ∷ fs)) 2) f (first_empty _ _ none) in
      let agrees = function-agrees file shaped limit small functions meanings routines chains f s (and_first _ _ spelled) knows in
      let other = not-tick (struct_table file.structs) functions depths f h fs none last in
      let keeps : Keeps (function_c meanings f) (signature_in f) =
      function-keeps (struct_table file.structs) functions meanings f s other
      (λ n x meaning a b. let k = knows n x a in subst (λ y. Keeps y x) (same_some k.c meaning (sym k.is ∙ b)) k.keeps) in
      this-or (bytes_eq f.name name) f g (found name (named (h ∷ fs))) (function_c meanings f)
      (routine_flat (capped_sizes file.structs) (layouts file.structs) routines f) (chain_cells (sizes file.structs) chains f)
      (found name (meanings_after (with_entry meanings f.name (function_c meanings f)) (h ∷ fs)))
      (found name (routines_after (capped_sizes file.structs) (layouts file.structs)
      (with_entry routines f.name (routine_flat (capped_sizes file.structs) (layouts file.structs) routines f)) (h ∷ fs)))
      (chains_after (sizes file.structs) (with_entry chains f.name (chain_cells (sizes file.structs) chains f)) (h ∷ fs)) agrees there
      (λ later. functions-found (with_entry functions f.name (signature_in f)) (with_entry depths f.name (depth_of_function depths f))
      (with_entry meanings f.name (function_c meanings f))
      (with_entry routines f.name (routine_flat (capped_sizes file.structs) (layouts file.structs) routines f))
      (with_entry chains f.name (chain_cells (sizes file.structs) chains f)) (h ∷ fs)
      (together-next functions meanings routines chains together knows f (function_c meanings f)
      (routine_flat (capped_sizes file.structs) (layouts file.structs) routines f) (chain_cells (sizes file.structs) chains f) agrees keeps)
      (knows-next functions meanings routines chains together knows f (function_c meanings f)
      (routine_flat (capped_sizes file.structs) (layouts file.structs) routines f) (chain_cells (sizes file.structs) chains f) agrees keeps)
      (second_empty (faults_in_function (struct_table file.structs) functions depths (nat_lt (length (h ∷ fs)) 2) f) _ none)
      (and_second (spells_func f) _ spelled)
      last name g later)

-- ---- the two functions that a file is called by

pub record Interface (fs : List CFunc) : Type 0 where
  pub last : LastTick fs
  pub init : CFunc
  pub init-is : found (codes "bl_init") (named fs) ≡ Some init
  pub init-params : init_params init.params ≡ true
  pub tick : CFunc
  pub tick-is : found (codes "bl_tick") (named fs) ≡ Some tick
  pub tick-params : tick_params tick.params ≡ true

two-fewer : (f g h : CFunc) (fs : List CFunc) → last_two (f ∷ g ∷ h ∷ fs) ≡ last_two (g ∷ h ∷ fs)
two-fewer f g h fs =
    let a : suc (suc (suc (length fs))) - 2 ≡ suc (length fs) = omega arith in
    let b : suc (suc (length fs)) - 2 ≡ length fs = omega arith in
    ap (λ n. drop n (f ∷ g ∷ h ∷ fs)) a ∙ ap (λ n. drop n (g ∷ h ∷ fs)) (sym b)

not-nil : (x : Fault) (xs : List Fault) → x ∷ xs ≡ [] → ⊥
not-nil x xs h = cc

init-so : (b : Bool) (h k : Bool) (at other : Place) →
    (if b then unless h interface_functions at else unless k interface_functions other) ≡ [] → k ≡ false →
    b ≡ true
init-so true h k at other none lacks = refl
init-so false h true at other none lacks = cc
init-so false h false at other none lacks = absurd (not-nil _ _ none)

init-test : (b : Bool) (h k : Bool) (at other : Place) →
    (if b then unless h interface_functions at else unless k interface_functions other) ≡ [] → b ≡ true →
    h ≡ true
init-test true h k at other none is = unless-nil h interface_functions at none
init-test false h k at other none is = cc

pub interface-of : (structs : Structs) (functions : Table Signature) (depths : Table ℕ) (fs : List CFunc) →
    function_faults_after structs functions depths fs ≡ [] → interface_faults fs ≡ [] → Interface fs
interface-of structs functions depths [] none faults = absurd (not-nil _ _ faults)
interface-of structs functions depths (f ∷ []) none faults = absurd (not-nil _ _ faults)
interface-of structs functions depths (f ∷ g ∷ []) none faults =
    let all : init_faults f g.place ++ tick_faults g ≡ [] = faults in
    let first = first_empty (init_faults f g.place) (tick_faults g) all in
    let second = unless-nil (bytes_eq g.name (codes "bl_tick") && (gives g.result (Nat W32) && tick_params g.params)) interface_functions g.place
    (second_empty (init_faults f g.place) (tick_faults g) all) in
    let named-init = init-so (bytes_eq f.name (codes "bl_init")) (is_none f.result && init_params f.params) false f.place g.place first refl in
    let test = init-test (bytes_eq f.name (codes "bl_init")) (is_none f.result && init_params f.params) false f.place g.place first named-init in
    let named-tick = and_first (bytes_eq g.name (codes "bl_tick")) _ second in
    let other : bytes_eq f.name (codes "bl_tick") ≡ false =
    ap (λ n. bytes_eq n (codes "bl_tick")) ((bytes_eq-Decides f.name (codes "bl_init")).0 named-init) in
    record {
      last = named-tick;
      init = f;
      init-is = ap (λ b. if b then Some f else found (codes "bl_init") (named (g ∷ []))) named-init;
      init-params = and_second (is_none f.result) _ test;
      tick = g;
      tick-is = ap (λ b. if b then Some f else found (codes "bl_tick") (named (g ∷ []))) other ∙ ap (λ b. if b then Some g else None) named-tick;
      tick-params = and_second (gives g.result (Nat W32)) _ (and_second (bytes_eq g.name (codes "bl_tick")) _ second);
    }
interface-of structs functions depths (f ∷ g ∷ h ∷ fs) none faults =
    let later = second_empty (faults_in_function structs functions depths (nat_lt (length (g ∷ h ∷ fs)) 2) f) _ none in
    let i : Interface (g ∷ h ∷ fs) =
    interface-of structs (with_entry functions f.name (signature_in f)) (with_entry depths f.name (depth_of_function depths f)) (g ∷ h ∷ fs) later
    (ap faults_of_two (sym (two-fewer f g h fs)) ∙ faults) in
    record {
      last = i.last;
      init = i.init;
      init-is = ap (λ b. if b then Some f else found (codes "bl_init") (named (g ∷ h ∷ fs)))
          (differs later (codes "bl_init") i.init i.init-is (bytes_eq f.name (codes "bl_init")) refl) ∙ i.init-is;
      init-params = i.init-params;
      tick = i.tick;
      tick-is = ap (λ b. if b then Some f else found (codes "bl_tick") (named (g ∷ h ∷ fs)))
          (differs later (codes "bl_tick") i.tick i.tick-is (bytes_eq f.name (codes "bl_tick")) refl) ∙ i.tick-is;
      tick-params = i.tick-params;
    }
  where
    differs : function_faults_after structs (with_entry functions f.name (signature_in f))
        (with_entry depths f.name (depth_of_function depths f)) (g ∷ h ∷ fs)
        ≡ [] → (name : Text) (x : CFunc) →
        found name (named (g ∷ h ∷ fs)) ≡ Some x → (b : Bool) → bytes_eq f.name name ≡ b → b ≡ false
    differs later name x there false is = refl
    differs later name x there true is =
        absurd (none-some (found name (named (g ∷ h ∷ fs)))
        (absent structs (with_entry functions f.name (signature_in f)) (with_entry depths f.name (depth_of_function depths f)) name (g ∷ h ∷ fs)
        (added-entry (functions name) (bytes_eq f.name name) (signature_in f) is) later)
        (ap is_some there))
