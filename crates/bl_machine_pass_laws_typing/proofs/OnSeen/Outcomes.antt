-- The values that an act leaves differ from those before at the paths that it writes alone.
use Rattle.std.proofs.Common.{◌≡◌, inl, inr, ℕ, List, [], ◌∷◌, ◌++◌, map, Option, Some, None}
use Rattle.std.proofs.Common.{refl, sym, ap, ◌∙◌, subst}
use Rattle.std.specs.Prelude.{option_and_then, option_map, slice_get, unwrap_or, ⊤}
use Rattle.bl_tree.specs.declared.static_path.Static.{Static}
use Rattle.bl_tree.specs.declared.tree.Path.{Path}
use Rattle.bl_tree.specs.declared.tree.Stmt.{Stmt}
use Rattle.bl_tree.specs.declared.tree.StmtKind.TheOpen.{StmtKind-F}
use Rattle.bl_tree.specs.declared.value.Value.{Value}
use Rattle.bl_tree.specs.declared.value.Value.TheVariants.{Parts}
use Rattle.bl_tree.specs.Effects.{kind_writes, writes}
use Rattle.bl_tree.specs.Static.{set_of, static_of, whole}
use Rattle.bl_tree.specs.Types.{scalar_in}
use Rattle.bl_effects.proofs.SetLemmas.{In, in_set, set_in}
use Rattle.bl_eval.specs.declared.datum.Datum.{Datum}
use Rattle.bl_eval.specs.declared.datum.Left.{Left as LeftBy}
use Rattle.bl_eval.specs.Functions.{acted, assigned, initial_value, outcome_of_call, put_all, put_back}
use Rattle.bl_eval.specs.Meaning.{Callee, Meaning, Scope, View, datum_of, meaning_of, path_meaning_of, plain, read_at, reading, value_in, values_of}
use Rattle.bl_eval.specs.Values.{put_at, value_at}
use Rattle.bl_eval_laws.proofs.OnLocal.Acting.{Kind, kind_of, writes_out, written_parts}
use Rattle.bl_eval_laws.proofs.OnLocal.Locality.{Front, local_path}
use Rattle.bl_eval_laws.proofs.OnLocal.Puts.{parts_of}
use Rattle.bl_machine_pass_laws_typing.proofs.OnSeen.Values.{Apart, Differ, Past, apart_more, elsewhere, front_there, put_inside, way}
use Rattle.bl_eval_laws.proofs.OnLocal.Puts.{put_is, value_in_parts}

-- something lies at each of the paths
abbrev pub Had : List Static → Value → Type 0
Had [] x = ⊤
Had (path ∷ rest) x = ((v : Value) × (value_at (way path) x ≡ Some v)) × Had rest x

-- the values that are left are others at these paths alone, at each of which there was something
pub record Left (paths : List Static) (now left : List Value) : Type 0 where
  pub differ : Differ paths (Parts now) (Parts left)
  pub had : Had paths (Parts now)

-- ---- sets of paths

past_in : (paths : List Static) (path : Static) (qs : List ℕ) → In path paths → Past paths qs → Apart (way path) qs
past_in [] path qs among past = absurd among
past_in (one ∷ paths) path qs (inl is) past = subst (λ path. Apart (way path) qs) (sym is) past.0
past_in (one ∷ paths) path qs (inr more) past = past_in paths path qs more past.1

past_by : (paths : List Static) (qs : List ℕ) → ((path : Static) → In path paths → Apart (way path) qs) → Past paths qs
past_by [] qs each = tt
past_by (path ∷ paths) qs each = (each path (inl refl), past_by paths qs (λ one among. each one (inr among)))

had_in : (paths : List Static) (path : Static) (x : Value) → In path paths → Had paths x → (v : Value) × (value_at (way path) x ≡ Some v)
had_in [] path x among had = absurd among
had_in (one ∷ paths) path x (inl is) had = subst (λ path. (v : Value) × (value_at (way path) x ≡ Some v)) (sym is) had.0
had_in (one ∷ paths) path x (inr more) had = had_in paths path x more had.1

had_by : (paths : List Static) (x : Value) → ((path : Static) → In path paths → (v : Value) × (value_at (way path) x ≡ Some v)) → Had paths x
had_by [] x each = tt
had_by (path ∷ paths) x each = (each path (inl refl), had_by paths x (λ one among. each one (inr among)))

left_set : (paths : List Static) (now left : List Value) → Left paths now left → Left (set_of paths) now left
left_set paths now left l = record {
  differ = λ qs past. l.differ qs (past_by paths qs (λ path among. past_in (set_of paths) path qs (set_in path paths among) past));
  had = had_by (set_of paths) (Parts now) (λ path among. had_in paths path (Parts now) (in_set path paths among) l.had);
}

-- ---- acts

-- one value is put, at a path and on
put_changes : (path : Static) (rest : List ℕ) (v : Value) (us vs : List Value) (qs : List ℕ) →
    put_at path.root (path.fields ++ rest) v us ≡ Some vs → Apart (way path) qs → value_at qs (Parts vs) ≡ value_at qs (Parts us)
put_changes path rest v us vs qs put apart =
    elsewhere (way path ++ rest) qs v (Parts us) (Parts vs) (apart_more (way path) rest qs apart)
    (put_is path.root (path.fields ++ rest) v us ∙ ap (option_map Parts) put)

one_left : (path : Static) (rest : List ℕ) (v : Value) (now left : List Value) → put_at path.root (path.fields ++ rest) v now ≡ Some left →
    Left (path ∷ []) now left
one_left path rest v now left put =
    let inner = put_inside (way path) rest v (Parts now) (Parts left)
    (put_is path.root (path.fields ++ rest) v now ∙ ap (option_map Parts) put) in
    record {
      differ = λ qs past. sym (put_changes path rest v now left qs put past.0);
      had = ((inner.old, inner.at), tt);
    }

module _ (scope : Scope) (view : View) where
  -- where a path leads its static path leads first
  begins : (path : Path) (ks : List ℕ) → (path_meaning_of scope path).positions view ≡ Some ks → Front (static_of path).fields ks
  begins path ks e = (local_path scope view.before view.before path).begins view.now ks e

  root_is : (path : Path) → (path_meaning_of scope path).root ≡ (static_of path).root
  root_is path = (local_path scope view.before view.before path).root

  put_so : (path : Path) (ks : List ℕ) (f : Front (static_of path).fields ks) (v : Value) (us : List Value) (o : Option (List Value)) →
      put_at (path_meaning_of scope path).root ks v us ≡ o → put_at (static_of path).root ((static_of path).fields ++ f.rest) v us ≡ o
  put_so path ks f v us o put =
      ap (λ root. put_at root ((static_of path).fields ++ f.rest) v us) (sym (root_is path))
      ∙ ap (λ ks. put_at (path_meaning_of scope path).root ks v us) (sym f.is)
      ∙ put

  declared_left : (k : ℕ) (value : Option Value) (left : List Value) → option_and_then (λ v. put_at k [] v view.now) value ≡ Some left →
      Left (whole k ∷ []) view.now left
  declared_left k None left e = absurd cc
  declared_left k (Some v) left e = one_left (whole k) [] v view.now left e

  assigned_left : (path : Path) (value : Option Value) (left : List Value) → assigned (path_meaning_of scope path) value view ≡ Some left →
      Left (static_of path ∷ []) view.now left
  assigned_left path None left e = absurd cc
  assigned_left path (Some v) left e = by ((path_meaning_of scope path).positions view) refl e
    where
      by : (o : Option (List ℕ)) → (path_meaning_of scope path).positions view ≡ o →
          option_and_then (λ ks. put_at (path_meaning_of scope path).root ks v view.now) o ≡ Some left → Left (static_of path ∷ []) view.now left
      by None is e = absurd cc
      by (Some ks) is e =
          let f = begins path ks is in one_left (static_of path) f.rest v view.now left (put_so path ks f v view.now (Some left) e)

  -- ---- calls

  back_changes : (path : Path) (v : Value) (us : List Value) (qs : List ℕ) → Apart (way (static_of path)) qs →
      value_at qs (Parts (put_back (path_meaning_of scope path) v view us)) ≡ value_at qs (Parts us)
  back_changes path v us qs apart = by ((path_meaning_of scope path).positions view) refl
    where
      by_put : (ks : List ℕ) → Front (static_of path).fields ks → (o : Option (List Value)) → put_at (path_meaning_of scope path).root ks v us ≡ o →
          value_at qs (Parts (unwrap_or o us)) ≡ value_at qs (Parts us)
      by_put ks f None put = refl
      by_put ks f (Some vs) put = put_changes (static_of path) f.rest v us vs qs (put_so path ks f v us (Some vs) put) apart

      by : (o : Option (List ℕ)) → (path_meaning_of scope path).positions view ≡ o →
          value_at qs (Parts (unwrap_or (option_and_then (λ ks. put_at (path_meaning_of scope path).root ks v us) o) us)) ≡ value_at qs (Parts us)
      by None is = refl
      by (Some ks) is = by_put ks (begins path ks is) (put_at (path_meaning_of scope path).root ks v us) refl

  all_changes : (outputs : List Path) (values us : List Value) (qs : List ℕ) → Past (map static_of outputs) qs →
      value_at qs (Parts (put_all (map (path_meaning_of scope) outputs) values view us)) ≡ value_at qs (Parts us)
  all_changes [] values us qs past = refl
  all_changes (path ∷ rest) [] us qs past = refl
  all_changes (path ∷ rest) (v ∷ values) us qs past =
      all_changes rest values (put_back (path_meaning_of scope path) v view us) qs past.1 ∙ back_changes path v us qs past.0

  -- expressions of which each has a value
  record First (e : Meaning) (rest : List Meaning) : Type 0 where
    datum : Datum
    is : e view ≡ Some datum
    values : List Value
    more : values_of rest view ≡ Some values

  first_of_all : (e : Meaning) (rest : List Meaning) (values : List Value) → values_of (e ∷ rest) view ≡ Some values → First e rest
  first_of_all e rest values all = by (e view) refl all
    where
      by_rest : (datum : Datum) → e view ≡ Some datum → (o : Option (List Value)) → values_of rest view ≡ o →
          option_map (λ values. plain datum ∷ values) o ≡ Some values → First e rest
      by_rest datum is None more all = absurd cc
      by_rest datum is (Some others) more all = record { datum = datum; is = is; values = others; more = more }

      by : (o : Option Datum) → e view ≡ o →
          option_and_then (λ datum. option_map (λ values. plain datum ∷ values) (values_of rest view)) o ≡ Some values → First e rest
      by None is all = absurd cc
      by (Some datum) is all = by_rest datum is (values_of rest view) refl all

  behind : (es others : List Meaning) (values : List Value) → values_of (es ++ others) view ≡ Some values →
      (more : List Value) × (values_of others view ≡ Some more)
  behind [] others values all = (values, all)
  behind (e ∷ es) others values all =
      let first = first_of_all e (es ++ others) values all in behind es others first.values first.more

  -- what a path leads to is there
  path_had : (path : Path) (datum : Datum) → reading (path_meaning_of scope path) view ≡ Some datum →
      (v : Value) × (value_at (way (static_of path)) (Parts view.now) ≡ Some v)
  path_had path datum read = by_positions ((path_meaning_of scope path).positions view) refl read
    where
      by_value : (ks : List ℕ) → Front (static_of path).fields ks → (o : Option Value) → read_at (path_meaning_of scope path).root view.now ks ≡ o →
          option_map (datum_of (scalar_in (path_meaning_of scope path).ty)) o ≡ Some datum →
          (v : Value) × (value_at (way (static_of path)) (Parts view.now) ≡ Some v)
      by_value ks f None there e = absurd cc
      by_value ks f (Some x) there e =
          let lies : value_at (way (static_of path) ++ f.rest) (Parts view.now) ≡ Some x =
          value_in_parts (static_of path).root ((static_of path).fields ++ f.rest) (Parts view.now) view.now (parts_of view.now)
          ∙ ap (read_at (static_of path).root view.now) (sym f.is)
          ∙ ap (λ root. read_at root view.now ks) (sym (root_is path))
          ∙ there in
          let found = front_there (way (static_of path)) f.rest (Parts view.now) x lies in
          (found.0, found.1)

      by_positions : (o : Option (List ℕ)) → (path_meaning_of scope path).positions view ≡ o →
          option_map (datum_of (scalar_in (path_meaning_of scope path).ty)) (option_and_then (read_at (path_meaning_of scope path).root view.now) o)
          ≡ Some datum →
          (v : Value) × (value_at (way (static_of path)) (Parts view.now) ≡ Some v)
      by_positions None is e = absurd cc
      by_positions (Some ks) is e = by_value ks (begins path ks is) (read_at (path_meaning_of scope path).root view.now ks) refl e

  outputs_had : (outputs : List Path) (values : List Value) → values_of (map reading (map (path_meaning_of scope) outputs)) view ≡ Some values →
      Had (map static_of outputs) (Parts view.now)
  outputs_had [] values all = tt
  outputs_had (path ∷ rest) values all =
      let first = first_of_all (reading (path_meaning_of scope path)) (map reading (map (path_meaning_of scope) rest)) values all in
      (path_had path first.datum first.is, outputs_had rest first.values first.more)

  called_left : (callee : Option Callee) (inputs : List Meaning) (outputs : List Path) (left : List Value) →
      option_and_then (outcome_of_call inputs (map (path_meaning_of scope) outputs) view) callee ≡ Some left →
      Left (map static_of outputs) view.now left
  called_left None inputs outputs left e = absurd cc
  called_left (Some callee) inputs outputs left e =
      by (values_of (inputs ++ map reading (map (path_meaning_of scope) outputs)) view) refl e
    where
      by_left : (values : List Value) → values_of (inputs ++ map reading (map (path_meaning_of scope) outputs)) view ≡ Some values →
          (o : Option LeftBy) →
          option_map (λ (l : LeftBy). put_all (map (path_meaning_of scope) outputs) l.outputs view view.now) o ≡ Some left →
          Left (map static_of outputs) view.now left
      by_left values all None e = absurd cc
      by_left values all (Some l) e =
          let more = behind inputs (map reading (map (path_meaning_of scope) outputs)) values all in
          let is : put_all (map (path_meaning_of scope) outputs) l.outputs view view.now ≡ left = cc in
          record {
            differ = λ qs past. sym (all_changes outputs l.outputs view.now qs past) ∙ ap (λ left. value_at qs (Parts left)) is;
            had = outputs_had outputs more.0 more.1;
          }

      by : (o : Option (List Value)) → values_of (inputs ++ map reading (map (path_meaning_of scope) outputs)) view ≡ o →
          option_and_then (λ values. option_map (λ (l : LeftBy). put_all (map (path_meaning_of scope) outputs) l.outputs view view.now)
          (callee values)) o ≡ Some left →
          Left (map static_of outputs) view.now left
      by None all e = absurd cc
      by (Some values) all e = by_left values all (callee values) e

  -- ---- by kinds

  by_kind : (layer : Kind) (left : List Value) → acted scope layer view ≡ Some left → Left (kind_writes (written_parts layer)) view.now left
  by_kind (StmtKind-F.Declare k initial) left e = declared_left k (initial_value scope k initial view) left e
  by_kind (StmtKind-F.Assign path e) left did = assigned_left path (value_in scope e view) left did
  by_kind (StmtKind-F.Call f inputs outputs) left e = called_left (slice_get scope.callees f) (map (meaning_of scope) inputs) outputs left e
  by_kind (StmtKind-F.Await e) left did = absurd cc
  by_kind (StmtKind-F.Run target a inputs outputs) left did = absurd cc
  by_kind (StmtKind-F.If arms other) left did = absurd cc
  by_kind (StmtKind-F.Cobegin branches) left did = absurd cc
  by_kind (StmtKind-F.When guard e body) left did = absurd cc
  by_kind (StmtKind-F.Repeat body) left did = absurd cc
  by_kind (StmtKind-F.Until body e) left did = absurd cc
  by_kind (StmtKind-F.While e body) left did = absurd cc
  by_kind (StmtKind-F.Return e) left did = absurd cc

  pub act_left : (s : Stmt) (left : List Value) → acted scope (kind_of s) view ≡ Some left → Left (writes s) view.now left
  act_left s left did =
      subst (λ paths. Left paths view.now left) (sym (writes_out s))
      (left_set (kind_writes (written_parts (kind_of s))) view.now left (by_kind (kind_of s) left did))
