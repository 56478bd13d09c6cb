-- The struct of a function's variables has variables of the program as its members.
use Rattle.std.proofs.Common.{◌≡◌, ℕ, suc, ◌+◌, ◌<◌, ◌≤◌, ◌^◌, Bool, true, false, List, [], ◌∷◌}
use Rattle.std.proofs.Common.{map, take, length, Some}
use Rattle.std.proofs.Common.{refl, sym, ap, ◌∙◌, subst, arith, ⊎_elim}
use Rattle.std.proofs.lemmas.List.Elements.{Contains-append_cases}
use Rattle.std.specs.Prelude.{Contains, slice_get}
use Rattle.bl_tree.proofs.Basics.{contains_none, contains_one}
use Rattle.bl_tree.specs.declared.text.Text.{Text}
use Rattle.bl_tree.specs.declared.c.CMember.{CMember}
use Rattle.bl_tree.specs.declared.c.CStruct.{CStruct}
use Rattle.bl_tree.specs.declared.tree.StructDef.{StructDef}
use Rattle.bl_tree.specs.declared.tree.Unit.{Unit as UnitDef}
use Rattle.bl_tree.specs.declared.tree.Var.{Var}
use Rattle.bl_tree.specs.Typing.{TypingContext, site_of}
use Rattle.bl_tree.specs.Words.{are_distinct}
use Rattle.bl_emit_acts.specs.Places.{home_of}
use Rattle.bl_emit_acts.specs.Types.{c_type}
use Rattle.bl_emit_functions.specs.Functions.{held_member, is_held, member_of, members_from, members_of, memory_struct, struct_of}
use Rattle.bl_emit_structs_laws_wellformed.specs.Formed.{IsMemory, OfVariable}
use Rattle.bl_emit_functions_laws_wellformed.specs.Formed.{MemoriesHold}
use Rattle.bl_emit_functions_laws_wellformed.proofs.OnFormed.Kept.{is_held_in, kept_differ, map_made, members_made}

abbrev pub names : List CMember → List Text
names members = map (λ (m : CMember). m.name) members

-- a member is that of a variable of a list
record OfList (structs : List StructDef) (vars : List Var) (m : CMember) : Type 0 where
  j : ℕ
  var : Var
  there : slice_get vars j ≡ Some var
  is : m.ty ≡ c_type structs var.ty

module _ (site : TypingContext) where
  members_differ : (vars : List Var) → length vars ≤ 2 ^ 64 → are_distinct (names (members_from site 0 vars)) ≡ true
  members_differ vars few =
      ap (λ members. are_distinct (names members)) (members_made site 0 vars)
      ∙ ap are_distinct (map_made (λ (m : CMember). m.name) (is_held_in site) (held_member site.structs site.vars) 0 vars)
      ∙ kept_differ site.vars (is_held_in site) 0 vars (omega (arith, few))

  members_are : (base : ℕ) (vars : List Var) (m : CMember) → Contains (members_from site base vars) m → OfList site.structs vars m
  members_are base [] m has = absurd (contains_none m has)
  members_are base (v ∷ vars) m has =
      ⊎_elim (own (is_held (home_of site (Some v)))) (λ later. further (members_are (base + 1) vars m later))
      (Contains-append_cases (member_of (is_held (home_of site (Some v))) site.structs site.vars base v) (members_from site (base + 1) vars) m has)
    where
      own : (b : Bool) → Contains (member_of b site.structs site.vars base v) m → OfList site.structs (v ∷ vars) m
      own true here = record { j = 0; var = v; there = refl; is = ap (λ (m : CMember). m.ty) (sym (contains_one (held_member site.structs site.vars base v) m here)) }
      own false here = absurd (contains_none m here)

      further : OfList site.structs vars m → OfList site.structs (v ∷ vars) m
      further found = record { j = suc found.j; var = found.var; there = found.there; is = found.is }

module _ (structs : List StructDef) (units : List UnitDef) (k : ℕ) (unit : UnitDef) (there : slice_get units k ≡ Some unit)
    (few : length unit.vars ≤ 2 ^ 64) where
  abbrev site : TypingContext
  site = site_of structs (take k units) unit

  memory_by : (members : List CMember) → are_distinct (names members) ≡ true → ((m : CMember) → Contains members m → OfVariable structs units m) →
      (s : CStruct) → Contains (struct_of unit.name members) s → IsMemory structs units s
  memory_by [] differ each s has = absurd (contains_none s has)
  memory_by (m ∷ rest) differ each s has =
      subst (IsMemory structs units) (contains_one _ s has) (record { rest = unit.name; named = refl; distinct = differ; members = each })

  pub memory_is : (s : CStruct) → Contains (memory_struct structs (take k units) unit) s → IsMemory structs units s
  memory_is =
      memory_by (members_of structs (take k units) unit) (members_differ site unit.vars few)
      (λ m has. let found = members_are site 0 unit.vars m has in
      record { k = k; j = found.j; unit = unit; var = found.var; unit_there = there; var_there = found.there; is = found.is })

pub memories : (structs : List StructDef) (units : List UnitDef) → MemoriesHold structs units
memories structs units k unit there few = memory_is structs units k unit there few
