-- The parts of units, one after another.
use Rattle.std.proofs.Common.{◌≡◌, ◌<◌, ◌≤◌, ℕ, zero, suc, ◌+◌, Bool, true, false}
use Rattle.std.proofs.Common.{List, [], ◌∷◌, ◌++◌, append_assoc, append-nil}
use Rattle.std.proofs.Common.{length, take, drop, get_or, refl, sym, ap, ap₂, ◌∙◌, arith}
use Rattle.std.proofs.lemmas.Grind.{common_steps}
use Rattle.std.specs.Prelude.{Option, Some, None, if◌then◌else◌, slice_get, unwrap_or}
use Rattle.bl_tree.specs.declared.c.CFunc.{CFunc}
use Rattle.bl_tree.specs.declared.c.CStruct.{CStruct}
use Rattle.bl_tree.specs.declared.tree.StructDef.{StructDef}
use Rattle.bl_tree.specs.declared.tree.Unit.{Unit as UnitDef}
use Rattle.bl_tree.specs.Typing.{is_activity}
use Rattle.bl_machine.specs.declared.machine.Activity.{Activity as InMachine}
use Rattle.bl_emit_spec.specs.Programs.{ProgramParts, no_parts, parts_then, where_needed}
use Rattle.bl_emit.specs.Programs.{next_told, parts_told, told_of, unit_told, units_told}

abbrev parts : List CStruct → List CFunc → List Bool → ProgramParts
parts structs funcs remember = record { structs = structs; funcs = funcs; remember = remember }

then_then : (a b c : ProgramParts) → parts_then (parts_then a b) c ≡ parts_then a (parts_then b c)
then_then a b c =
    ap (λ structs. parts structs ((a.funcs ++ b.funcs) ++ c.funcs) ((a.remember ++ b.remember) ++ c.remember))
    (append_assoc a.structs b.structs c.structs)
    ∙ ap₂ (λ (funcs : List CFunc) (remember : List Bool). parts (a.structs ++ (b.structs ++ c.structs)) funcs remember)
    (append_assoc a.funcs b.funcs c.funcs) (append_assoc a.remember b.remember c.remember)

then_none : (a : ProgramParts) → parts_then a no_parts ≡ a
then_none a =
    ap (λ structs. parts structs (a.funcs ++ []) (a.remember ++ [])) (append-nil a.structs)
    ∙ ap₂ (λ (funcs : List CFunc) (remember : List Bool). parts a.structs funcs remember) (append-nil a.funcs) (append-nil a.remember)

kept : (test : Bool) (p : ProgramParts) → (where_needed test p).remember ≡ p.remember
kept true p = refl
kept false p = refl

module _ (structs : List StructDef) where
  one_more : (earlier : List UnitDef) (made : ProgramParts) (unit : UnitDef) (units : List UnitDef) (test : Bool) (needed : List Bool)
      (left : List InMachine) (here next : ProgramParts) (more : List InMachine) →
      here ≡ where_needed test (unit_told structs earlier made.remember unit left) → next ≡ parts_then made here →
      more ≡ (if is_activity unit.kind then drop 1 left else left) →
      parts_then next (units_told structs (earlier ++ unit ∷ []) next.remember units needed more)
      ≡ parts_then made (units_told structs earlier made.remember (unit ∷ units) (test ∷ needed) left)
  one_more earlier made unit units test needed left here next more here_is next_is more_is =
      let told = unit_told structs earlier made.remember unit left in
      let next_so : next ≡ parts_then made (where_needed test told) = next_is ∙ ap (parts_then made) here_is in
      ap₂ (λ (next : ProgramParts) (more : List InMachine). parts_then next (units_told structs (earlier ++ unit ∷ []) next.remember units needed more))
      next_so more_is
      ∙ (ap (λ (seen : List Bool). parts_then (parts_then made (where_needed test told))
      (units_told structs (earlier ++ unit ∷ []) (made.remember ++ seen) units needed
      (if is_activity unit.kind then drop 1 left else left))) (kept test told)
      ∙ then_then made (where_needed test told)
      (units_told structs (earlier ++ unit ∷ []) (made.remember ++ told.remember) units needed
      (if is_activity unit.kind then drop 1 left else left)))

  pub next_is : (earlier : List UnitDef) (remember : List Bool) (unit : UnitDef) (machine : List InMachine) (one : InMachine) →
      Some one ≡ slice_get machine 0 → parts_told (told_of structs earlier remember unit one) ≡ next_told structs earlier remember unit machine
  next_is earlier remember unit [] one is = absurd (some_is_not_none one is)
    where
      some_is_not_none : (one : InMachine) → Some one ≡ None → ⊥
      some_is_not_none one is = cc
  next_is earlier remember unit (x ∷ rest) one is =
      let same : one ≡ x = ap (λ (o : Option InMachine). unwrap_or o one) is in
      ap (λ (one : InMachine). parts_told (told_of structs earlier remember unit one)) same

  drop_at : {X : Type 0} (xs : List X) (k : ℕ) (d : X) → k < length xs → drop k xs ≡ get_or xs k d ∷ drop (k + 1) xs
  drop_at xs k d within = grind (arith, common_steps, within)

  take_at : {X : Type 0} (xs : List X) (k : ℕ) (d : X) → k < length xs → take (k + 1) xs ≡ take k xs ++ get_or xs k d ∷ []
  take_at xs k d within = grind (arith, common_steps, within)

  same_at : {X : Type 0} (xs : List X) (k : ℕ) (a b : X) → k < length xs → get_or xs k a ≡ get_or xs k b
  same_at [] k a b within = absurd (omega (arith, within))
  same_at (x ∷ xs) zero a b within = refl
  same_at (x ∷ xs) (suc k) a b within = same_at xs k a b (omega (arith, within))

  pub step : (units : List UnitDef) (needed : List Bool) (left : List InMachine) (k : ℕ) (made : ProgramParts) (unit again : UnitDef) (d : Bool)
      (front : List UnitDef) (seen : List Bool) (here next whole : ProgramParts) (more : List InMachine) →
      k < length units → k < length needed → unit ≡ get_or units k unit → again ≡ get_or units k again → front ≡ take k units →
      seen ≡ made.remember → here ≡ where_needed (get_or needed k d) (unit_told structs front seen unit left) →
      next ≡ parts_then made here →
      more ≡ (if is_activity again.kind then drop 1 left else left) →
      parts_then made (units_told structs (take k units) made.remember (drop k units) (drop k needed) left) ≡ whole →
      parts_then next (units_told structs (take (k + 1) units) next.remember (drop (k + 1) units) (drop (k + 1) needed) more) ≡ whole
  step units needed left k made unit again d front seen here next whole more in_units in_needed unit_is again_is front_is seen_is here_is next_is
      more_is so =
      let test = get_or needed k d in
      let same : again ≡ unit = again_is ∙ (same_at units k again unit in_units ∙ sym unit_is) in
      let longer : take (k + 1) units ≡ take k units ++ unit ∷ [] =
      take_at units k unit in_units ∙ ap (λ (u : UnitDef). take k units ++ u ∷ []) (sym unit_is) in
      let rest : drop k units ≡ unit ∷ drop (k + 1) units =
      drop_at units k unit in_units ∙ ap (λ (u : UnitDef). u ∷ drop (k + 1) units) (sym unit_is) in
      let tests : drop k needed ≡ test ∷ drop (k + 1) needed = drop_at needed k d in_needed in
      let here_so : here ≡ where_needed test (unit_told structs (take k units) made.remember unit left) =
      here_is ∙ ap₂ (λ (front : List UnitDef) (seen : List Bool). where_needed test (unit_told structs front seen unit left)) front_is seen_is in
      let more_so : more ≡ (if is_activity unit.kind then drop 1 left else left) =
      more_is ∙ ap (λ (u : UnitDef). if is_activity u.kind then drop 1 left else left) same in
      ap (λ (some : List UnitDef). parts_then next (units_told structs some next.remember (drop (k + 1) units) (drop (k + 1) needed) more)) longer
      ∙ (one_more (take k units) made unit (drop (k + 1) units) test (drop (k + 1) needed) left here next more here_so next_is more_so
      ∙ (ap₂ (λ (some : List UnitDef) (tests : List Bool). parts_then made (units_told structs (take k units) made.remember some tests left))
      (sym rest) (sym tests)
      ∙ so))

  pub no_test : (earlier : List UnitDef) (units : List UnitDef) (needed : List Bool) (left : List InMachine) (k : ℕ) (made whole : ProgramParts) →
      length needed ≤ k →
      parts_then made (units_told structs earlier made.remember (drop k units) (drop k needed) left) ≡ whole → made ≡ whole
  no_test earlier units needed left k made whole past so =
      let none : drop k needed ≡ [] = grind (arith, common_steps, past) in
      sym (then_none made)
      ∙ (ap (parts_then made) (sym (nothing (drop k units)))
      ∙ (ap (λ (tests : List Bool). parts_then made (units_told structs earlier made.remember (drop k units) tests left)) (sym none) ∙ so))
    where
      nothing : (units : List UnitDef) → units_told structs earlier made.remember units [] left ≡ no_parts
      nothing [] = refl
      nothing (u ∷ units) = refl
