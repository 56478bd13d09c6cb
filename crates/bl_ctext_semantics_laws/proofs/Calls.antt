-- Calls in a C text and over numbered cells.
use Rattle.std.proofs.Common.{◌≡◌, ℕ, ◌+◌, ◌≤◌, ℤ, true, false, List, map, Option, Some, None, refl, ap, sym, subst, ◌∙◌, arith}
use Rattle.std.specs.Prelude.{is_some, if◌then◌else◌}
use Rattle.std.proofs.lemmas.Bool.{and_from}
use Rattle.bl_tree.proofs.Basics.{same_some}
use Rattle.bl_tree.specs.declared.text.Text.{Text}
use Rattle.bl_tree.specs.declared.scalar.Scalar.{Scalar}
use Rattle.bl_ctext.specs.declared.builtin.Builtin.{Builtin}
use Rattle.bl_ctext.specs.declared.builtin.Builtin.TheVariants.{Two, One, Cast, Index, Turn, Stop}
use Rattle.bl_ctext_semantics.specs.Builtin.{builtin_of, builtin_params, builtin_result, builtin_value}
use Rattle.bl_ctext_semantics.specs.Memory.{Root, variable, Memory}
use Rattle.bl_ctext_semantics.specs.Meaning.{ArgumentValue, CallResult, Counted, Scope, applied as applied_c, called_after, named_call as called_c}
use Rattle.bl_ctext_semantics.specs.Meaning.{called_as as called_as_c, number_of_passed}
use Rattle.bl_ctext_semantics.specs.Sizes.{Sizes}
use Rattle.bl_ctext_semantics.specs.Tables.{Table, entry_or}
use Rattle.bl_ctext_semantics.specs.Faults.{Context, JudgedArg, Signature, by_value, builtin_signature, fit_args, fit_each, signature_as}
use Rattle.bl_tree.specs.Ports.{in_ranges}
use Rattle.bl_ctext_semantics_laws.proofs.Results.{builtin-typed, builtins-fit}
use Rattle.bl_ctext_semantics_laws.specs.Layout.{capped}
use Rattle.bl_ctext_semantics_laws.specs.Reaching.{Ground}
use Rattle.bl_ctext_semantics_laws.specs.Flat.{Cells, FlatAnswer, Routine, applied, called_as, flat_answer, flat_call, flat_next, going_on, is_typed}
use Rattle.bl_ctext_semantics_laws.specs.Flat.{prelude_value}
use Rattle.bl_ctext_semantics_laws.proofs.Ways.{Lists, Shaped, Structs}
use Rattle.bl_ctext_semantics_laws.proofs.Standing.{Stand, Stands, World}
use Rattle.bl_ctext_semantics_laws.proofs.Evaluations.{Agree, Matches}
use Rattle.bl_ctext_semantics_laws.proofs.Running.{CallAgrees, Ranged, Running}
use Rattle.bl_ctext_semantics_laws.proofs.Values.{PassedList, numbers-fit, passed-all}

stood-is : (o : Option Stand) (t : Stand) → o ≡ Some t → is_some o ≡ true
stood-is (Some s) t h = refl
stood-is None t h = cc

none-stands : (o : Option Stand) → o ≡ None → is_some o ≡ false
none-stands None h = refl
none-stands (Some s) h = cc

module _ (known : Sizes) (lists : Lists) (structs : Structs) (shaped : Shaped known lists structs) (limit : ℕ) (context : Context) (scope : Scope)
    (ground : Ground Routine) (chains : Table ℕ)
    (base : ℕ) (w : World) (running : Running known lists structs shaped limit context scope ground chains base w) (memory : Memory) where
  abbrev Stood : Cells → Type 0
  Stood = Stands known lists structs shaped limit w memory

  abbrev Passing : List JudgedArg → List ArgumentValue → List ℤ → Type 0
  Passing = PassedList known lists structs shaped limit w memory

  -- a call of a function that is known
  pub record CallFacts (signature : Option Signature) (c : CallResult) (l : FlatAnswer ℤ) : Type 0 where
    pub s : Signature
    pub is : signature ≡ Some s
    pub agrees : CallAgrees known lists structs shaped limit w s.result c l
    pub same : is_some s.result ≡ true → (root : Root) (t : Stand) → w.stand root ≡ Some t → c.memory root ≡ memory root

  builtin-signed : (b : Builtin) (s : Signature) → builtin_signature b ≡ Some s →
      s ≡ record { widens = true; params = map by_value (builtin_params b); result = builtin_result b }
  builtin-signed (Two op t) s h = same_some s _ (sym h)
  builtin-signed (One op t) s h = same_some s _ (sym h)
  builtin-signed (Cast signed t) s h = same_some s _ (sym h)
  builtin-signed (Index signed) s h = same_some s _ (sym h)
  builtin-signed Turn s h = same_some s _ (sym h)
  builtin-signed Stop s h = cc

  chosen-value : (b : Builtin) (ns : List ℤ) → is_typed b ≡ true → in_ranges (builtin_params b) ns ≡ true →
      prelude_value b ns ≡ builtin_value b ns
  chosen-value b ns typed h = ap (λ x. if x then builtin_value b ns else None) (and_from (is_typed b) (in_ranges (builtin_params b) ns) typed h)

  builtin-ranged : (name : Text) (b : Builtin) (ns : List ℤ) → builtin_of name ≡ Some b → in_ranges (builtin_params b) ns ≡ true →
      (result : Option Scalar) →
      builtin_result b ≡ result →
      (answer : Option ℤ) → builtin_value b ns ≡ answer → Ranged known lists structs shaped limit result answer
  builtin-ranged name b ns is fits None r answer v = tt
  builtin-ranged name b ns is fits (Some t) r None v = tt
  builtin-ranged name b ns is fits (Some t) r (Some n) v = builtins-fit name b ns t n is fits r v

  -- a call of the prelude
  prelude-call : (name : Text) (b : Builtin) (s : Signature) (js : List JudgedArg) (vs : List ArgumentValue) (ns : List ℤ) (cells : Cells) →
      builtin_of name ≡ Some b → builtin_signature b ≡ Some s →
      fit_each s.widens s.params js ≡ true → Passing js vs ns → Stood cells →
      CallAgrees known lists structs shaped limit w s.result (record { memory = memory; count = 0; result = builtin_value b (map number_of_passed vs) })
      (flat_answer cells (prelude_value b ns))
  prelude-call name b s js vs ns cells is signed fit passes stood =
      let e = builtin-signed b s signed in
      let f = numbers-fit known lists structs shaped limit w memory (builtin_params b) js vs ns (subst (λ x. fit_each x.widens x.params js ≡ true) e fit)
      passes in
      let value : builtin_value b (map number_of_passed vs) ≡ builtin_value b ns = ap (builtin_value b) f.0 in
      record {
        count = refl;
        answer = value ∙ sym (chosen-value b ns (builtin-typed name b is) f.1);
        stands = stood;
        range = builtin-ranged name b (map number_of_passed vs) is (subst (λ xs. in_ranges (builtin_params b) xs ≡ true) (sym f.0) f.1) s.result
            (sym (ap (λ x. x.result) e)) (builtin_value b (map number_of_passed vs)) refl;
      }

  -- a call of a function of the file
  own-call : (name : Text) (s : Signature) (js : List JudgedArg) (vs : List ArgumentValue) (ns : List ℤ) (cells : Cells) → context.functions name ≡ Some s →
      s.widens ≡ false → fit_each s.widens s.params js ≡ true →
      w.top + entry_or 0 chains name ≤ limit → Passing js vs ns → Stood cells →
      CallAgrees known lists structs shaped limit w s.result (applied_c (scope.known name) (scope.depth + 1) vs memory)
      (applied (ground.known name) (capped (base + ground.frame)) ns cells)
  own-call name s js vs ns cells is plain fit room passes stood =
      let f = running.functions name s is in
      let at = running.next in
      let all = passed-all known lists structs shaped limit w memory s.params js vs ns (ap (λ x. fit_each x s.params js) (sym plain) ∙ fit) passes in
      subst (λ o. CallAgrees known lists structs shaped limit w s.result (applied_c o (scope.depth + 1) vs memory)
      (applied (ground.known name) (capped (base + ground.frame)) ns cells)) (sym f.is)
      (subst (λ o. CallAgrees known lists structs shaped limit w s.result (f.c (scope.depth + 1) vs memory)
      (applied o (capped (base + ground.frame)) ns cells)) (sym f.also)
      (f.agrees.agree w (scope.depth + 1) (capped (base + ground.frame)) vs ns memory cells running.separate running.shallow (omega arith) (omega arith) stood
      all))

  own-same : (name : Text) (s : Signature) (vs : List ArgumentValue) → context.functions name ≡ Some s → is_some s.result ≡ true →
      (root : Root) (t : Stand) →
      w.stand root ≡ Some t →
      (applied_c (scope.known name) (scope.depth + 1) vs memory).memory root ≡ memory root
  own-same name s vs is has root t there =
      let f = running.functions name s is in
      ap (λ o. (applied_c o (scope.depth + 1) vs memory).memory root) f.is
      ∙ f.keeps.stay (λ r. is_some (w.stand r)) (scope.depth + 1) vs memory (λ d n deep. none-stands (w.stand (variable d n)) (running.shallow d n deep))
      (λ no. absurd (let x : true ≡ false = sym has ∙ no in cc)) root (stood-is (w.stand root) t there)

  -- what is called, once the arguments are there
  called-agrees : (name : Text) (signature : Option Signature) (js : List JudgedArg) (vs : List ArgumentValue) (ns : List ℤ) (cells : Cells) (b : Option Builtin) →
      builtin_of name ≡ b →
      signature_as b (context.functions name) ≡ signature → is_some signature ≡ true → fit_args signature js ≡ true →
      ((s : Signature) → context.functions name ≡ Some s → s.widens ≡ false) →
      w.top + entry_or 0 chains name ≤ limit → Passing js vs ns → Stood cells →
      CallFacts signature (called_as_c b (scope.known name) (scope.depth + 1) vs memory)
      (called_as b (ground.known name) (capped (base + ground.frame)) ns cells)
  called-agrees name None js vs ns cells b is signed there fit plain room passes stood = cc
  called-agrees name (Some s) js vs ns cells (Some b) is signed there fit plain room passes stood = record {
    s = s;
    is = refl;
    agrees = prelude-call name b s js vs ns cells is signed fit passes stood;
    same = λ has root t at. refl;
  }
  called-agrees name (Some s) js vs ns cells None is signed there fit plain room passes stood = record {
    s = s;
    is = refl;
    agrees = own-call name s js vs ns cells signed (plain s signed) fit room passes stood;
    same = λ has root t at. own-same name s vs signed has root t at;
  }

  later-facts : (signature : Option Signature) (n k : ℕ) (c : CallResult) (l : FlatAnswer ℤ) → n ≡ k → CallFacts signature c l →
      CallFacts signature (record { memory = c.memory; count = n + c.count; result = c.result })
      (record { cells = l.cells; count = k + l.count; answer = l.answer })
  later-facts signature n k c l same facts = record {
    s = facts.s;
    is = facts.is;
    agrees = record {
      count = let e = facts.agrees.count in
          omega arith;
      answer = facts.agrees.answer;
      stands = facts.agrees.stands;
      range = facts.agrees.range;
    };
    same = facts.same;
  }

  trapped-range : (result : Option Scalar) → Ranged known lists structs shaped limit result None
  trapped-range None = tt
  trapped-range (Some t) = tt

  trapped-facts : (signature : Option Signature) (n k : ℕ) (cells : Cells) → n ≡ k → is_some signature ≡ true → Stood cells →
      CallFacts signature (record { memory = memory; count = n; result = None }) (record { cells = cells; count = k; answer = None })
  trapped-facts None n k cells same there stood = cc
  trapped-facts (Some s) n k cells same there stood = record {
    s = s;
    is = refl;
    agrees = record { count = same; answer = refl; stands = stood; range = trapped-range s.result };
    same = λ has root t at. refl;
  }

  after-args : (name : Text) (signature : Option Signature) (js : List JudgedArg) (n k : ℕ) (cells : Cells)
      (a : Option (List ArgumentValue)) (b : Option (List ℤ)) →
      n ≡ k → Stood cells → Matches (Passing js) a b →
      is_some signature ≡ true →
      ((vs : List ArgumentValue) (ns : List ℤ) → Passing js vs ns → CallFacts signature (called_c scope name vs memory) (flat_call ground name base ns cells)) →
      CallFacts signature (called_after scope memory name n a) (going_on cells k b (λ after args. flat_call ground name base args after))
  after-args name signature js n k cells None None same stood h there go = trapped-facts signature n k cells same there stood
  after-args name signature js n k cells None (Some b) same stood h there go = absurd h
  after-args name signature js n k cells (Some a) None same stood h there go = absurd h
  after-args name signature js n k cells (Some vs) (Some ns) same stood h there go =
      later-facts signature n k (called_c scope name vs memory) (flat_call ground name base ns cells) same (go vs ns h)

  -- a call
  pub call-agrees : (name : Text) (signature : Option Signature) (js : List JudgedArg) (c : Counted (List ArgumentValue)) (l : FlatAnswer (List ℤ)) →
      signature_as (builtin_of name) (context.functions name) ≡ signature →
      is_some signature ≡ true → fit_args signature js ≡ true → ((s : Signature) → context.functions name ≡ Some s → s.widens ≡ false) →
      w.top + entry_or 0 chains name ≤ limit →
      Agree known lists structs shaped limit w memory (Passing js) c l →
      CallFacts signature (called_after scope memory name c.count c.answer) (flat_next l (λ after args. flat_call ground name base args after))
  call-agrees name signature js c l signed there fit plain room agrees =
      after-args name signature js c.count l.count l.cells c.answer l.answer agrees.count agrees.stands agrees.answer there
      (λ vs ns passes. called-agrees name signature js vs ns l.cells (builtin_of name) refl signed there fit plain room passes agrees.stands)
