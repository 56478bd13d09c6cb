-- Units are named as their types want it, and calls in the values of constants name functions, where every use fits.
use Rattle.std.proofs.Common.{◌≡◌, ℕ, zero, suc, ◌+◌, Bool, true, ◌&&◌, List, [], ◌∷◌, ◌++◌, map, length, take, Some, None, refl, sym, ap, subst, ◌∙◌}
use Rattle.std.proofs.Common.{append_assoc, append-nil, arith}
use Rattle.std.specs.Prelude.{slice_get, ⊤}
use Rattle.std.specs.List.{list_all}
use Rattle.std.proofs.lemmas.Option.{same_Some}
use Rattle.std.proofs.lemmas.List.{length-append}
use Rattle.std.proofs.lemmas.List.Folds.{list_all-append}
use Rattle.std.proofs.lemmas.Bool.{and_from}
use Rattle.bl_tree.proofs.Basics.{all_is_all_of, and_first, and_second, plus_none}
use Rattle.bl_tree.specs.declared.tree.Role.TheVariants as role
use Rattle.bl_tree.specs.declared.tree.Unit.{Unit as UnitDef}
use Rattle.bl_tree.specs.declared.tree.UnitKind.{UnitKind}
use Rattle.bl_tree.specs.declared.tree.UnitKind.TheVariants as unit
use Rattle.bl_tree.specs.Reduce.{all_of}
use Rattle.bl_tree.specs.Typing.{is_activity, is_function}
use Rattle.bl_names_tree.specs.declared.item.NamedConstant.{NamedConstant}
use Rattle.bl_names_tree.specs.declared.item.NamedUnit.{NamedUnit}
use Rattle.bl_names_tree.specs.declared.item.NamedVar.{NamedVar}
use Rattle.bl_names_tree.specs.declared.stmt.NamedStmt.{NamedStmt}
use Rattle.bl_names_tree.specs.Placed.{holds_of}
use Rattle.bl_names_scopes.specs.declared.kind.Kind.TheVariants as kinds
use Rattle.bl_names_scopes.specs.declared.scopes.Counts.{Counts}
use Rattle.bl_names_scopes.specs.Marks.{closes, constant_marks, declares, expr_marks, in_scope, inside_unit, item_marks, kind_of_unit, marks_of, optional}
use Rattle.bl_names_scopes.specs.Marks.{struct_marks, type_marks, unit_marks}
use Rattle.bl_names_scopes.specs.Scopes.{Scopes, after, count_of, counted, enter}
use Rattle.bl_parse_tree.specs.declared.item.RawItem.{RawItem}
use Rattle.bl_parse_tree.specs.declared.item.RawItem.TheVariants as item
use Rattle.bl_parse_tree.specs.declared.item.RawStruct.{RawStruct}
use Rattle.bl_parse_tree.specs.declared.item.RawUnit.{RawUnit}
use Rattle.bl_parse_tree.specs.declared.stmt.RawConstant.{RawConstant}
use Rattle.bl_parse_tree.specs.Names.{item_stands, named, optional as if_there, param_named, stmt_stands, type_named, unit_stands}
use Rattle.bl_names.specs.Named.{along, block_piece, constants_in_unit, constants_of, named_constant, named_unit, opened, params_piece, role_piece, units_of}
use Rattle.bl_names.proofs.FitLemmas.{Fits, fits_behind, fits_first, fits_second}
use Rattle.bl_names.proofs.ItemLemmas.{struct_scopes, unit_scopes}
use Rattle.bl_names.proofs.PastLemmas.{enter-behind}
use Rattle.bl_names.proofs.PieceLemmas.{block_marks, role_marks}
use Rattle.bl_names.proofs.PlacedStmt.{Within, closed_is, within_first, within_second}
use Rattle.bl_names.proofs.StillLemmas.{after-append, still_optional, still_type, still_value}
use Rattle.bl_eval.proofs.PassLemmas.{get_seam}
use Rattle.bl_types_laws.specs.Standing.{stmt_named, unit_named}
use Rattle.bl_types_laws.proofs.NamedHeads.{head_at, head_long, head_suits, is_typed}
use Rattle.bl_types_laws.proofs.StmtNames.{every_body, value_is}
use Rattle.bl_types_laws.proofs.Suits.{Suits, constant_calls, suits_so, suits_then, told_opened}
use Rattle.bl_types_laws.proofs.Told.{Told, kind_told, kinds_of, told_declared, told_more}
use Rattle.bl_names.proofs.PlacedItem.{unit_counted}

-- ---- units

-- the marks in a unit, with the result behind the parameters
inside_are : (def : RawUnit) → inside_unit def ≡ (params_piece def).marks ++ (optional type_marks def.result ++ (block_piece def.body).marks)
inside_are def =
    (λ i. sym (role_marks role.Input def.inputs) i ++ (sym (role_marks role.Output def.outputs) i
    ++ (optional type_marks def.result ++ sym (block_marks def.body) i)))
    ∙ sym (append_assoc (role_piece role.Input def.inputs).marks (role_piece role.Output def.outputs).marks
    (optional type_marks def.result ++ (block_piece def.body).marks))

-- the scopes that are open at the end of a unit
abbrev body_end : Scopes → RawUnit → Scopes
body_end scopes def = after (after (opened scopes) (params_piece def).marks) (block_piece def.body).marks

none_before : (a b n : ℕ) → a ≡ 0 → b ≡ a + n → n ≡ b
none_before a b n none is = omega arith

module _ (units : List UnitDef) (all_constants : List NamedConstant) (scopes : Scopes) (def : RawUnit) (told : Told (kinds_of units) scopes)
    (none : scopes.counts.variables ≡ 0)
    (fits : Fits scopes (unit_marks def)) (stands : unit_stands def ≡ true)
    (within : Within all_constants scopes.counts.constants (constants_in_unit scopes def)) where
  abbrev two : Scopes
  two = after (opened scopes) (params_piece def).marks

  abbrev three : Scopes
  three = after two (block_piece def.body).marks

  abbrev params : List NamedVar
  params = (params_piece def).vars (opened scopes)

  abbrev locals : List NamedVar
  locals = (block_piece def.body).vars two

  abbrev made : NamedUnit
  made = named_unit scopes def

  inside_fits : Fits (opened scopes) ((params_piece def).marks ++ (optional type_marks def.result ++ (block_piece def.body).marks))
  inside_fits = subst (Fits (opened scopes)) (inside_are def)
      (fits_first (opened scopes) (inside_unit def) (closes ∷ []) (fits_first scopes (in_scope (inside_unit def))
      (declares def.name (kind_of_unit def.kind) ∷ []) fits).1)

  body_fits : Fits two (block_piece def.body).marks
  body_fits = fits_behind two (optional type_marks def.result) (block_piece def.body).marks (still_optional type_marks def.result still_type)
      (fits_second (opened scopes) (params_piece def).marks (optional type_marks def.result ++ (block_piece def.body).marks) inside_fits)

  body_stands : all_of (map stmt_stands def.body) ≡ true
  body_stands =
      sym (all_is_all_of stmt_stands def.body)
      ∙ and_second (if_there type_named def.result) (list_all stmt_stands def.body)
      (and_second (named def.name && (list_all param_named def.inputs && list_all param_named def.outputs))
      (if_there type_named def.result && list_all stmt_stands def.body) stands)

  head : Suits units (list_all is_typed params) (opened scopes) two params ((params_piece def).constants (opened scopes))
  head = head_suits units def (opened scopes) (told_opened units scopes told)

  abbrev body_test : List NamedStmt → Bool
  body_test body = all_of (map (stmt_named all_constants made.vars units) body)

  body : Suits units (body_test made.body) two three locals ((block_piece def.body).constants two)
  body = every_body units made.vars all_constants def.body body_stands two head.told body_fits
      (record {
        before = params;
        rest = [];
        there = ap (λ l. params ++ l) (sym (append-nil locals));
        is_at =
            none_before scopes.counts.variables two.counts.variables (length params) none head.more_vars;
      })
      (subst (λ at. Within all_constants at ((block_piece def.body).constants two)) (sym head.more_constants)
      (within_second all_constants scopes.counts.constants ((params_piece def).constants (opened scopes)) ((block_piece def.body).constants two) within))

  params_typed : take (length def.inputs + length def.outputs) made.vars ≡ params
  params_typed = head_at params locals (length def.inputs + length def.outputs) (head_long def (opened scopes))

  -- what is in a unit is named, and the scopes around it are open behind it
  pub unit_suits : Suits units (unit_named all_constants units made) (opened scopes) three made.vars (constants_in_unit scopes def)
  unit_suits =
      suits_so units (list_all is_typed params && body_test made.body) (unit_named all_constants units made) (opened scopes) three made.vars
      (constants_in_unit scopes def)
      (λ is. and_from (list_all is_typed (take (length def.inputs + length def.outputs) made.vars)) (list_all (stmt_named all_constants made.vars units) made.body)
      (ap (list_all is_typed) params_typed ∙ and_first (list_all is_typed params) (body_test made.body) is)
      (all_is_all_of (stmt_named all_constants made.vars units) made.body ∙ and_second (list_all is_typed params) (body_test made.body) is))
      (suits_then units (list_all is_typed params) (body_test made.body) (opened scopes) two three params locals ((params_piece def).constants (opened scopes))
      ((block_piece def.body).constants two) head body)

-- ---- behind a unit

pub unit_told : (done : List UnitKind) (kind : UnitKind) (counts : Counts) → counts.units ≡ length done →
    kind_told (done ++ (kind ∷ [])) (kind_of_unit kind) (count_of counts (kind_of_unit kind)) ≡ true
unit_told done unit.Function counts is = ap (holds_of is_function) (get_seam done unit.Function counts.units is)
unit_told done unit.Activity counts is = ap (holds_of is_activity) (get_seam done unit.Activity counts.units is)

-- the scopes behind an item, behind which these units are known
pub record Behind (done : List UnitKind) (scopes new : Scopes) (constants : List NamedConstant) : Type 0 where
  pub told : Told done new
  pub no_variables : new.counts.variables ≡ 0
  pub counted : new.counts.units ≡ length done
  pub more_constants : new.counts.constants ≡ scopes.counts.constants + length constants

next_length : (done : List UnitKind) (kind : UnitKind) (n : ℕ) → n ≡ length done → n + 1 ≡ length (done ++ (kind ∷ []))
next_length done kind n is = let more : length (done ++ (kind ∷ [])) ≡ length done + 1 = length-append done (kind ∷ []) in omega arith

behind_unit : (units : List UnitDef) (holds : Bool) (done : List UnitKind) (scopes : Scopes) (def : RawUnit) (vars : List NamedVar)
    (constants : List NamedConstant) →
    Told done scopes → scopes.counts.units ≡ length done →
    Suits units holds (opened scopes) (body_end scopes def) vars constants →
    Behind (done ++ (def.kind ∷ [])) scopes (after scopes (unit_marks def)) constants
behind_unit units holds done scopes def vars constants told counted_is suits =
    let three = body_end scopes def in
    let closed = record scopes { counts = three.counts } in
    let is = unit_counted def.kind three.counts in
    let there : enter closed (declares def.name (kind_of_unit def.kind)) ≡ after scopes (unit_marks def) =
    ap (λ s. enter s (declares def.name (kind_of_unit def.kind))) (sym (closed_is scopes three suits.outer))
    ∙ unit_scopes scopes three def (sym (after-append (opened scopes) (params_piece def).marks (block_piece def.body).marks)) in
    subst (λ new. Behind (done ++ (def.kind ∷ [])) scopes new constants) there
    (record {
      told = told_declared (done ++ (def.kind ∷ [])) closed def.name (kind_of_unit def.kind)
          (unit_told done def.kind three.counts (suits.same_units ∙ counted_is)) (told_more done (def.kind ∷ []) scopes told);
      no_variables = ap (λ c. c.variables) is;
      counted = ap (λ c. c.units) is ∙ ap (λ n. n + 1) suits.same_units ∙ next_length done def.kind scopes.counts.units counted_is;
      more_constants = ap (λ c. c.constants) is ∙ suits.more_constants;
    })

-- ---- items

behind_struct : (done : List UnitKind) (scopes : Scopes) (def : RawStruct) → Told done scopes → scopes.counts.variables ≡ 0 →
    scopes.counts.units ≡ length done → Behind done scopes (after scopes (struct_marks def)) []
behind_struct done scopes def told none counted =
    subst (λ new. Behind done scopes new []) (struct_scopes scopes def)
    (record {
      told = told_declared done scopes def.name kinds.Struct refl told;
      no_variables = none;
      counted = counted;
      more_constants =
          plus_none scopes.counts.constants;
    })

behind_constant : (done : List UnitKind) (scopes : Scopes) (def : RawConstant) → Told done scopes → scopes.counts.variables ≡ 0 →
    scopes.counts.units ≡ length done →
    Behind done scopes (after scopes (constant_marks def)) (named_constant scopes def ∷ [])
behind_constant done scopes def told none counted =
    subst (λ new. Behind done scopes new (named_constant scopes def ∷ []))
    (enter-behind scopes (optional type_marks def.ty ++ expr_marks def.value) def.name kinds.Constant (still_value def.ty (Some def.value)))
    (record { told = told_declared done scopes def.name kinds.Constant refl told; no_variables = none; counted = counted; more_constants = refl })

-- some unit of the kind
abbrev stand_in : UnitKind → UnitDef
stand_in kind = record { name = []; place = record { start = 0; end = 0 }; kind = kind; vars = []; inputs = 0; outputs = 0; result = None; body = [] }

abbrev pub stand_ins : List UnitKind → List UnitDef
stand_ins kinds = map stand_in kinds

pub stand_ins_are : (kinds : List UnitKind) → kinds_of (stand_ins kinds) ≡ kinds
stand_ins_are [] = refl
stand_ins_are (kind ∷ kinds) = ap (λ rest. kind ∷ rest) (stand_ins_are kinds)

module _ (all_constants : List NamedConstant) where
  -- each unit is named where these kinds of units are before them
  abbrev pub EachNamed : List UnitKind → List NamedUnit → Type 0
  EachNamed done [] = ⊤
  EachNamed done (unit ∷ units) = ((earlier : List UnitDef) → kinds_of earlier ≡ done → unit_named all_constants earlier unit ≡ true)
      × EachNamed (done ++ (unit.kind ∷ [])) units

  -- units are named, and calls in constants name functions among all units
  pub record ItemsSuit (done : List UnitKind) (units : List NamedUnit) (constants : List NamedConstant) : Type 0 where
    pub are_named : EachNamed done units
    pub calls : (whole : List UnitDef) → kinds_of whole ≡ done ++ map (λ unit. unit.kind) units → list_all (constant_calls whole) constants ≡ true

  -- what is known of the items from a place on
  pub record Known (done : List UnitKind) (scopes : Scopes) (items : List RawItem) : Type 0 where
    pub told : Told done scopes
    pub none : scopes.counts.variables ≡ 0
    pub counted : scopes.counts.units ≡ length done
    pub fits : Fits scopes (marks_of items)
    pub stand : list_all item_stands items ≡ true
    pub within : Within all_constants scopes.counts.constants (along constants_of scopes items)

  known_next : (done more : List UnitKind) (scopes : Scopes) (one : RawItem) (items : List RawItem) → Known done scopes (one ∷ items) →
      Behind more scopes (after scopes (item_marks one)) (constants_of scopes one) →
      Known more (after scopes (item_marks one)) items
  known_next done more scopes one items known behind = record {
    told = behind.told;
    none = behind.no_variables;
    counted = behind.counted;
    fits = fits_second scopes (item_marks one) (marks_of items) known.fits;
    stand = and_second (item_stands one) (list_all item_stands items) known.stand;
    within = subst (λ at. Within all_constants at (along constants_of (after scopes (item_marks one)) items)) (sym behind.more_constants)
        (within_second all_constants scopes.counts.constants (constants_of scopes one) (along constants_of (after scopes (item_marks one)) items) known.within);
  }

  -- the units that are known are the first of all
  told_among : (done rest : List UnitKind) (scopes : Scopes) (whole : List UnitDef) → Told done scopes → kinds_of whole ≡ done ++ rest →
      Told (kinds_of whole) scopes
  told_among done rest scopes whole told is = subst (λ kinds. Told kinds scopes) (sym is) (told_more done rest scopes told)

  constant_then : (done : List UnitKind) (scopes : Scopes) (def : RawConstant) (units : List NamedUnit)
      (constants : List NamedConstant) → Told done scopes →
      Fits scopes (constant_marks def) →
      ItemsSuit done units constants → ItemsSuit done units (named_constant scopes def ∷ constants)
  constant_then done scopes def units constants told fits later = record {
    are_named = later.are_named;
    calls = λ whole is. and_from (constant_calls whole (named_constant scopes def)) (list_all (constant_calls whole) constants)
        (value_is whole scopes def (told_among done (map (λ (unit : NamedUnit). unit.kind) units) scopes whole told is)
        (fits_first scopes (optional type_marks def.ty ++ expr_marks def.value) (declares def.name kinds.Constant ∷ []) fits))
        (later.calls whole is);
  }

  unit_then : (done : List UnitKind) (scopes : Scopes) (def : RawUnit) (units : List NamedUnit) (constants : List NamedConstant) → Told done scopes →
      ((whole : List UnitDef) → Told (kinds_of whole) scopes →
      Suits whole (unit_named all_constants whole (named_unit scopes def)) (opened scopes) (body_end scopes def) (named_unit scopes def).vars
      (constants_in_unit scopes def)) →
      ItemsSuit (done ++ (def.kind ∷ [])) units constants → ItemsSuit done (named_unit scopes def ∷ units) (constants_in_unit scopes def ++ constants)
  unit_then done scopes def units constants told suits later = record {
    are_named = ((λ earlier is. (suits earlier (subst (λ kinds. Told kinds scopes) (sym is) told)).named), later.are_named);
    calls = λ whole is.
        let kinds = map (λ (unit : NamedUnit). unit.kind) units in
        list_all-append (constant_calls whole) (constants_in_unit scopes def) constants
        ∙ and_from (list_all (constant_calls whole) (constants_in_unit scopes def)) (list_all (constant_calls whole) constants)
        (suits whole (told_among done (def.kind ∷ kinds) scopes whole told is)).calls
        (later.calls whole (is ∙ sym (append_assoc done (def.kind ∷ []) kinds)));
  }

  unit_at : (done : List UnitKind) (scopes : Scopes) (def : RawUnit) (items : List RawItem) → Known done scopes (item.Unit def ∷ items) →
      (whole : List UnitDef) → Told (kinds_of whole) scopes →
      Suits whole (unit_named all_constants whole (named_unit scopes def)) (opened scopes) (body_end scopes def) (named_unit scopes def).vars
      (constants_in_unit scopes def)
  unit_at done scopes def items known whole told =
      unit_suits whole all_constants scopes def told known.none (fits_first scopes (unit_marks def) (marks_of items) known.fits)
      (and_first (unit_stands def) (list_all item_stands items) known.stand)
      (within_first all_constants scopes.counts.constants (constants_in_unit scopes def) (along constants_of (after scopes (unit_marks def)) items)
      known.within)

  pub items_suit : (items : List RawItem) (done : List UnitKind) (scopes : Scopes) → Known done scopes items →
      ItemsSuit done (along units_of scopes items) (along constants_of scopes items)
  items_suit [] done scopes known = record { are_named = tt; calls = λ whole is. refl }
  items_suit (item.Struct def ∷ items) done scopes known =
      let behind = behind_struct done scopes def known.told known.none known.counted in
      items_suit items done (after scopes (struct_marks def)) (known_next done done scopes (item.Struct def) items known behind)
  items_suit (item.Constant def ∷ items) done scopes known =
      let behind = behind_constant done scopes def known.told known.none known.counted in
      let new = after scopes (constant_marks def) in
      constant_then done scopes def (along units_of new items) (along constants_of new items) known.told
      (fits_first scopes (constant_marks def) (marks_of items) known.fits)
      (items_suit items done new (known_next done done scopes (item.Constant def) items known behind))
  items_suit (item.Unit def ∷ items) done scopes known =
      let new = after scopes (unit_marks def) in
      let before = stand_ins done in
      let behind = behind_unit before (unit_named all_constants before (named_unit scopes def)) done scopes def (named_unit scopes def).vars
      (constants_in_unit scopes def) known.told known.counted
      (unit_at done scopes def items known before (subst (λ kinds. Told kinds scopes) (sym (stand_ins_are done)) known.told)) in
      unit_then done scopes def (along units_of new items) (along constants_of new items) known.told (unit_at done scopes def items known)
      (items_suit items (done ++ (def.kind ∷ [])) new (known_next done (done ++ (def.kind ∷ [])) scopes (item.Unit def) items known behind))

  -- the one at a position
  pub named_at : (units : List NamedUnit) (done : List UnitKind) (k : ℕ) (unit : NamedUnit) (earlier : List UnitDef) → EachNamed done units →
      slice_get units k ≡ Some unit →
      kinds_of earlier ≡ done ++ map (λ (unit : NamedUnit). unit.kind) (take k units) → unit_named all_constants earlier unit ≡ true
  named_at [] done k unit earlier each there is = absurd (cc)
  named_at (first ∷ units) done zero unit earlier each there is = subst (λ unit. unit_named all_constants earlier unit ≡ true) (same_Some first unit there)
      (each.0 earlier (is ∙ append-nil done))
  named_at (first ∷ units) done (suc k) unit earlier each there is =
      named_at units (done ++ (first.kind ∷ [])) k unit earlier each.1 there
      (is ∙ sym (append_assoc done (first.kind ∷ []) (map (λ (unit : NamedUnit). unit.kind) (take k units))))
