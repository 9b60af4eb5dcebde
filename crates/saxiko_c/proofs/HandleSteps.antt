-- A handle, whatever it holds: its type, its machine values, and the walks of its functions. Assumes `Logic`.
use Rattle.std.proofs.Common.{◌≡◌, ℕ, List, [], ◌∷◌, ◌++◌, refl, subst, sym, ◌∙◌, ap, lit<}
use mathlib.Core.Bool.{Bool, true, false, ◌&&◌}
use lib.Dec.{T}
use seplogic.Ra.Ura.{Ura}
use mir.Syntax.{impl, tnil, dnil, Sym, Fn, Callee, local, value_local, ty_ptr, ty_bool, assign, place, field, rv_opd, copy, aggregate, int, w8, w64, opd_true, opd_false, cond, seq, «return»}
use mir.Raw.{raw as bare}
use mir.Val.{Val, vptr, vstruct, vcons, vnil, of_list, has_ty, WT, vbool}
use base.Logic.{never, fst∗, SProp, ent, emp, id⊢}
use types.Logic.{Logic, sem}
use types.Kit.{Item, Goal, Seq, Step, step, ‵, ◌$◌, move, drop, fsplit, fjoin, fpick, fpack, feq_i, feq_l, raw, ◌⊛◌, at_ret, ◌∵◌, !, qed, by, keep, split, suffices, use0, use1, rewrite}
use denote.RattleType.{RattleType, Valss, owns}
use denote.Builtin.{RawPtr, bool}
use denote.Memory.{lone}
use denote.RawPtr.{Ptr, block_ptr, null_ptr, ptr_val, in_a_block}
use denote.Steps.{nothing}
use denote.Param.{layout}
use denote.Param.Laws.{Laws}
use denote.Struct.Struct.{within, Struct, exits_of}
use denote.Struct.Owning.{shape, Owning, row}
use Rattle.core.specs.declared.alloc.Allocator.{Ghosts}
use Rattle.core.proofs.alloc.Calls.{Al, handle_tells}
use Rattle.core.proofs.cell.Inside.{Good}
use Rattle.std_alloc.specs.Box.Ownership.{box_owns}
use Rattle.std_alloc.proofs.ResultValues.{and_tt}
use base.Stored.{Coded}
use base.Fml.{Fml, Lft, ftrue, fsep}
use prog.Model.{Model}
use prog.Wp.{WpFn, Closed}
use types.Run.{stop, fld, lit, of_opd, true_lit, false_lit, no_more, and_then, first, branches, exec, returns, enter}
use types.ByLocal.{alloc_all, pass_all, free_all, look_at, get, get_in, sets, sets_last, env}
use types.Part.{agg, sub, whole}
use types.Match.{live}
use contract.Monad.{fact, fact_i}
use contract.Running.{Running, tables}
use denote.Exit.{yes, under, hidden}
use denote.Signature.{types_at, plain}
use denote.Struct.Field.{RawPtr-field, bool-field, rows}
use denote.Struct.Values.{Values, intos}
use denote.Triple.Clauses.{Ended, Clauses, closing}
use denote.Triple.Spec.{Meets}
use denote.Triple.Walked.{Stays, stay_dropped, walk_of, Goes-dropped}
use Rattle.core.proofs.alloc.Shapes.{after}
use Rattle.core.proofs.atomic.Steps.{Ptr-Good}
use Rattle.core.proofs.option.Made.{Some-of, none_of}
use Rattle.core.specs.Option.{MatchOption}
use Rattle.core.specs.declared.option.Option.{Option}
use Rattle.core.specs.declared.option.Option.TheVariants.{None, Some}
use Rattle.std.proofs.raw_atomic.Walks.{proved_at, leaves}
use Rattle.std_heap.specs.declared.Global.{Global}
use Rattle.std_heap.specs.contracts.GlobalAllocator.TheImpl.{ghosts}
use Rattle.saxiko_c.specs.OwnedTables.{handle_owns}
use Rattle.saxiko_c.specs.contracts.raw_box.RawBox as raw_box
use Rattle.core.specs.contracts.option.Option as option
use Rattle.std_heap.specs.contracts.Global as heap
use Rattle.std_heap.proofs.Global.TheLaws as heap_laws

-- The machine values of a `RawBox` and of a `OnceBox`. Assumes `Logic`.

abbrev pub both : Val → Val → Val
both v w = vstruct (vcons v (vcons w vnil))

pub both_tt : (x y : Bool) → T x → T y → T (x && (y && true))
both_tt true true s t = tt
both_tt true false s t = absurd t
both_tt false y s t = absurd s

module _ (R Z : RattleType) (L : Laws Z) (g : Ghosts Z.Denot) where
  abbrev pub RawBox : RattleType
  RawBox = raw_box.the_row R Z g

  abbrev allocator : Al
  allocator = record { row = Z; laws = L; g = g; d = impl [] tnil dnil; drops = impl [] tnil dnil }

  pub raw_box_good : (b o : ℕ) (h : Val) → Good (layout Z) h → T (has_ty (layout Z) h && true) × WT (both (vptr b o) h)
  raw_box_good b o h fits = (and_tt (has_ty (layout Z) h) fits.0, (tt, (fits.1, tt)))

  module _ {M : Type 1} {𝓤 : Ura M} {𝓛 : Logic 𝓤} {K : Type 0} {Γ : List (Item 𝓤)} {G : Goal 𝓤 𝓛.H} where
    pub raw_box_out : K → (d : RawBox.Denot) (vs : List Val)
        → ((b o : ℕ) (h : Val) → d.at ≡ block_ptr b o → vs ≡ both (vptr b o) h ∷ [] → Good (layout Z) h → Seq K 𝓛 (‵ (box_owns (g.dealloc_token d.alloc) R (block_ptr b o) d.value) ∷ ‵ (Z.own_val d.alloc (h ∷ [])) ∷ Γ) G)
        → Seq K 𝓛 (‵ (RawBox.own_val d vs) ∷ Γ) G
    raw_box_out t d vs k =
        fsplit t $ fpick t (λ vss. fsplit t $ feq_l t (λ ev. fsplit t $ feq_l t (λ ep. fsplit t $ handle_tells allocator t d.alloc vss.1.0 (λ h ea fits. move t (1 ∷ []) $ drop t $ move t (1 ∷ []) $
        in_a_block t d.at (λ p. box_owns (g.dealloc_token d.alloc) R p d.value) (fst∗ 𝓤 (never 𝓤) (sem 𝓛 (g.dealloc_token d.alloc (bare (lone R.mir)) null_ptr))) (λ b o e. k b o h e
        (subst (λ (p : Ptr). vs ≡ vstruct (of_list (ptr_val p ∷ h ∷ [])) ∷ []) e
        (subst (λ (ws : List Val). vs ≡ vstruct (of_list (ptr_val d.at ∷ (ws ++ []))) ∷ []) ea (subst (λ (ps : List Val). vs ≡ vstruct (of_list (ps ++ (vss.1.0 ++ []))) ∷ []) ep ev))) fits)))))

    pub raw_box_in : K → (b o : ℕ) (h : Val) (a : Z.Denot) (x : R.Denot)
        → Step K 𝓛 (‵ (RawBox.own_val (record { at = block_ptr b o; alloc = a; value = x }) (both (vptr b o) h ∷ [])) ∷ Γ) G (‵ (box_owns (g.dealloc_token a) R (block_ptr b o) x) ∷ ‵ (Z.own_val a (h ∷ [])) ∷ Γ) G
    raw_box_in t b o h a x = step (λ s. let v : Val = both (vptr b o) h in
        nothing t $ move t (2 ∷ 0 ∷ []) $ fjoin t $ feq_i t (List Val) (vptr b o ∷ []) (vptr b o ∷ []) refl $ fjoin t $ feq_i t (List Val) (v ∷ []) (v ∷ []) refl $ fjoin t $
        fpack t (Valss (RawPtr ∷ Z ∷ [])) (within (shape (raw_box.the_type R Z g)) (block_ptr b o, (a, tt)) (v ∷ [])) (vptr b o ∷ [], (h ∷ [], tt)) $ fjoin t $ s)

-- a handle's fields, and what it holds
abbrev pub Inside : RattleType → Type 0
Inside R = Ptr × (Bool × (Global × Option R.Denot))

-- the type of a handle of values of the type `Held`
pub record Form : Type 1 where
  pub name : Sym
  pub Held : RattleType
  pub D : Type 0
  pub look : D → Inside Held
  pub make : Inside Held → D
  pub seen : (x : Inside Held) → look (make x) ≡ x
  pub coded : Coded D
  pub shr_at : D → ℕ → ℕ → Lft → Fml

abbrev pub word : Val → Bool → Val → Val
word p flag h = vstruct (vcons p (vcons (vbool flag) (vcons h vnil)))

abbrev al : Al
al = record { row = heap.the_row; laws = heap_laws.the_row_laws; g = ghosts; d = impl [] tnil dnil; drops = impl [] tnil dnil }

abbrev Z : RattleType
Z = heap.the_row

module _ (F : Form) where
  open F use {Held, look, make, seen}

  abbrev R : RattleType
  R = Held

  abbrev parts : List denote.Struct.Field.Field
  parts = RawPtr-field ∷ bool-field ∷ heap.the_field ∷ []

  abbrev values : Inside R → Values parts
  values x = (x.0, (x.1.0, (x.1.1.0, tt)))

  abbrev pub the_type : Owning
  the_type = record {
    name = F.name;
    args = [];
    types = [];
    parts = parts;
    D = F.D;
    as_values = λ d. values (look d);
    coded = F.coded;
    heap = λ d. handle_owns R (look d).1.1.0 (look d).0 (look d).1.0 (look d).1.1.1;
    exit = λ k. hidden (under (λ d. intos parts (values (look d))) (exits_of k (rows parts)));
    shr_at = F.shr_at;
  }

  abbrev pub the_row : RattleType
  the_row = row the_type

  abbrev boxed : Global → Ptr → R.Denot → Fml
  boxed a = box_owns (ghosts.dealloc_token a) R

  abbrev owned : Inside R → List Val → Fml
  owned x vs = fsep ((Struct (shape the_type)).own_val (intos parts (values x)) vs) (handle_owns R x.1.1.0 x.0 x.1.0 x.1.1.1)

  module _ {M : Type 1} {𝓤 : Ura M} {𝓛 : Logic 𝓤} {K : Type 0} {Γ : List (Item 𝓤)} {G : Goal 𝓤 𝓛.H} where
    handle_out : K → (p : Ptr) (flag : Bool) (a : Global) (tb : Option R.Denot) (vs : List Val)
        → ((h : Val) → flag ≡ false → tb ≡ None → vs ≡ word (ptr_val p) false h ∷ [] → Good (layout Z) h → Seq K 𝓛 (‵ (Z.own_val a (h ∷ [])) ∷ Γ) G)
        → ((b o : ℕ) (h : Val) (x : R.Denot) → tb ≡ Some x → vs ≡ word (vptr b o) true h ∷ [] → Good (layout Z) h → Seq K 𝓛 (‵ (boxed a (block_ptr b o) x) ∷ ‵ (Z.own_val a (h ∷ [])) ∷ Γ) G)
        → Seq K 𝓛 (‵ (owned (p, (flag, (a, tb))) vs) ∷ Γ) G
    handle_out t p flag a None vs k₀ k₁ =
        fsplit t $ fpick t (λ vss. fsplit t $ feq_l t (λ ev. fsplit t $ feq_l t (λ ep. fsplit t $ feq_l t (λ ef. fsplit t $ handle_tells al t a vss.1.1.0 (λ h ea fits. move t (1 ∷ []) $ drop t $ move t (1 ∷ []) $
        feq_l t (λ off. k₀ h off refl (ev ∙ (λ j. vstruct (of_list (ep j ++ (ef j ++ (ea j ++ [])))) ∷ []) ∙ ap (λ f. word (ptr_val p) f h ∷ []) off) fits))))))
    handle_out t p flag a (Some x) vs k₀ k₁ =
        fsplit t $ fpick t (λ vss. fsplit t $ feq_l t (λ ev. fsplit t $ feq_l t (λ ep. fsplit t $ feq_l t (λ ef. fsplit t $ handle_tells al t a vss.1.1.0 (λ h ea fits. move t (1 ∷ []) $ drop t $ move t (1 ∷ []) $ fsplit t $
        feq_l t (λ on. in_a_block t p (λ q. boxed a q x) (fst∗ 𝓤 (never 𝓤) (sem 𝓛 (ghosts.dealloc_token a (bare (lone R.mir)) null_ptr))) (λ b o e.
        k₁ b o h x refl (ev ∙ (λ j. vstruct (of_list (ep j ++ (ef j ++ (ea j ++ [])))) ∷ []) ∙ (λ j. word (ptr_val (e j)) (on j) h ∷ [])) fits)))))))

    open_in : K → (b o : ℕ) (h : Val) (a : Global) (x : R.Denot)
        → Step K 𝓛 (‵ (the_row.own_val (make (block_ptr b o, (true, (a, Some x)))) (word (vptr b o) true h ∷ [])) ∷ Γ) G (‵ (boxed a (block_ptr b o) x) ∷ ‵ (Z.own_val a (h ∷ [])) ∷ Γ) G
    open_in t b o h a x = step (λ s. let v : Val = word (vptr b o) true h in let i : Inside R = (block_ptr b o, (true, (a, Some x))) in
        feq_i t Bool true true refl $ fjoin t $
        nothing t $ move t (2 ∷ 0 ∷ []) $ fjoin t $ feq_i t (List Val) (vbool true ∷ []) (vbool true ∷ []) refl $ fjoin t $ feq_i t (List Val) (vptr b o ∷ []) (vptr b o ∷ []) refl $ fjoin t $ feq_i t (List Val) (v ∷ []) (v ∷ []) refl $ fjoin t $
        fpack t (Valss (RawPtr ∷ bool ∷ Z ∷ [])) (within (shape the_type) (intos parts (values i)) (v ∷ [])) (vptr b o ∷ [], (vbool true ∷ [], (h ∷ [], tt))) $ fjoin t $
        rewrite t 0 (λ (j : Inside R). ‵ (owned j (v ∷ []))) (sym (seen i)) refl $ s)

    closed_in : K → (h : Val) (a : Global)
        → Step K 𝓛 (‵ (the_row.own_val (make (null_ptr, (false, (a, None)))) (word (ptr_val null_ptr) false h ∷ [])) ∷ Γ) G (‵ (Z.own_val a (h ∷ [])) ∷ Γ) G
    closed_in t h a = step (λ s. let v : Val = word (ptr_val null_ptr) false h in let i : Inside R = (null_ptr, (false, (a, None))) in
        feq_i t Bool false false refl $
        nothing t $ move t (2 ∷ 0 ∷ []) $ fjoin t $ feq_i t (List Val) (vbool false ∷ []) (vbool false ∷ []) refl $ fjoin t $ feq_i t (List Val) (ptr_val null_ptr ∷ []) (ptr_val null_ptr ∷ []) refl $ fjoin t $ feq_i t (List Val) (v ∷ []) (v ∷ []) refl $ fjoin t $
        fpack t (Valss (RawPtr ∷ bool ∷ Z ∷ [])) (within (shape the_type) (intos parts (values i)) (v ∷ [])) (ptr_val null_ptr ∷ [], (vbool false ∷ [], (h ∷ [], tt))) $ fjoin t $
        rewrite t 0 (λ (j : Inside R). ‵ (owned j (v ∷ []))) (sym (seen i)) refl $ s)

  -- ---- a closed one
  abbrev closed_ended : Ended
  closed_ended = record {
    signature = record { lifetimes = 0; outlives = []; params = plain (λ κs. Z) ∷ []; result = plain (λ κs. the_row) };
    kept = (yes, tt);
  }

  abbrev closed_fn : Fn
  closed_fn = record {
    lifetimes = 0;
    outlives = [];
    ty_params = [];
    givens = 0;
    params = 1;
    locals = local (layout the_row) value_local ∷ local (layout Z) value_local ∷ [];
    body = seq (assign (place 0 []) (aggregate (int w64 0 ∷ opd_false ∷ copy (place 1 []) ∷ []))) «return»;
  }

  module _ {M : Type 1} (𝓤 : Ura M) (𝓛 : Logic 𝓤) (𝓜 : Model 𝓤 𝓛.H) (𝓡 : Running 𝓤 𝓛.H 𝓜) (k : Callee) where
    abbrev closed_clauses : Clauses 𝓤 closed_ended
    closed_clauses = λ κs args. record { ghost = Unit {0}; requires = λ g. emp 𝓤; ensures = λ g r end. fact 𝓤 ((look r).1.1.1 ≡ None) }

    pub closed_meets : Closed 𝓤 𝓛.H (tables 𝓤 𝓛.H 𝓜 𝓡 𝓡.env).C (tables 𝓤 𝓛.H 𝓜 𝓡 𝓡.env).Λ k closed_fn
        → Meets 𝓛 closed_ended.signature ((tables 𝓤 𝓛.H 𝓜 𝓡 𝓡.env).C k) (closing 𝓛 closed_ended closed_clauses)
    closed_meets unfolds =
        let H = 𝓛.H in let 𝓣 = tables 𝓤 H 𝓜 𝓡 𝓡.env in let En = closed_ended in let c = closed_clauses in let fn = closed_fn in let none : Option R.Denot = None in
        let hs : Stays En.signature.params En.kept = (stay_dropped (plain (λ _. Z)) yes, tt) in
        proved_at 𝓛 En hs c 𝓜 𝓡 (Goes-dropped 𝓛 0 (plain (λ _. Z)) yes (λ κs x f. refl), tt) k fn unfolds (λ z are.
        let κs = z.0.0 in let a = z.0.3.0 in let Post : Val → SProp 𝓤 = (walk_of 𝓛 En hs c).post z in let Run : List Val → SProp 𝓤 = λ ws. WpFn 𝓤 H 𝓣.C 𝓣.Λ fn ws Post in
        let i : Inside R = (null_ptr, (false, (a, none))) in let holds : (look (make i)).1.1.1 ≡ none = ap (λ (j : Inside R). j.1.1.1) (seen i) in
        qed 𝓛 ((‵ ftrue ⊛ ‵ (owns (types_at En.signature.params κs) z.0.3 z.0.4)) ∷ raw ((c κs z.0.3).requires z.1) ∷ []) ∵ split ! $ move ! (1 ∷ []) $ fsplit ! $ handle_tells al ! a z.0.4.0 (λ h ws fits.
        suffices ! (Run (h ∷ [])) (subst (λ (us : List Val). ent 𝓤 (Run (h ∷ [])) (Run us)) (sym (λ i. ws i ++ [])) (id⊢ 𝓤 (Run (h ∷ [])))) $
        enter ! 𝓣.C 𝓣.Λ fn (h ∷ []) Post $ alloc_all ! (λ l. pass_all ! refl (fits, tt) $
        sets ! (agg ! (and_then ! (lit ! tt) (and_then ! (false_lit !) (and_then ! (get ! refl) (no_more !))))) refl (and_tt _ fits.0, ((Ptr-Good null_ptr).1, (tt, (fits.1, tt)))) $
        closed_in ! h a $ use0 𝓛 (raw (fact 𝓤 ((look (make i)).1.1.1 ≡ none))) (fact_i 𝓤 ((look (make i)).1.1.1 ≡ none) (emp 𝓤) holds) $ nothing ! $ nothing ! $ fjoin ! $
        returns ! (look_at ! 0 refl) $ free_all ! refl $ keep ! (4 ∷ 0 ∷ 2 ∷ 1 ∷ []) $ by ! (leaves 𝓛 En hs c z (word (ptr_val null_ptr) false h) (make i) (tt, tt) (tt, tt)))))

  -- ---- one with a box
  abbrev L : RattleType
  L = RawBox R Z heap_laws.the_row_laws ghosts

  abbrev of_ended : Ended
  of_ended = record {
    signature = record { lifetimes = 0; outlives = []; params = plain (λ κs. L) ∷ []; result = plain (λ κs. the_row) };
    kept = (yes, tt);
  }

  abbrev of_fn : Fn
  of_fn = record {
    lifetimes = 0;
    outlives = [];
    ty_params = [];
    givens = 0;
    params = 1;
    locals = local (layout the_row) value_local ∷ local (layout L) value_local ∷ local ty_ptr value_local ∷ local (layout Z) value_local ∷ local ty_ptr value_local ∷ [];
    body = seq (assign (place 2 []) (rv_opd (copy (place 1 (field 0 ∷ []))))) (seq (assign (place 3 []) (rv_opd (copy (place 1 (field 1 ∷ []))))) (seq (assign (place 4 []) (rv_opd (copy (place 2 []))))
        (seq (assign (place 0 []) (aggregate (copy (place 4 []) ∷ opd_true ∷ copy (place 3 []) ∷ []))) «return»)));
  }

  module _ {M : Type 1} (𝓤 : Ura M) (𝓛 : Logic 𝓤) (𝓜 : Model 𝓤 𝓛.H) (𝓡 : Running 𝓤 𝓛.H 𝓜) (k : Callee) where
    abbrev of_clauses : Clauses 𝓤 of_ended
    of_clauses = λ κs args. record { ghost = Unit {0}; requires = λ g. emp 𝓤; ensures = λ g r end. fact 𝓤 ((look r).1.1.1 ≡ Some args.0.value) }

    pub of_meets : Closed 𝓤 𝓛.H (tables 𝓤 𝓛.H 𝓜 𝓡 𝓡.env).C (tables 𝓤 𝓛.H 𝓜 𝓡 𝓡.env).Λ k of_fn
        → Meets 𝓛 of_ended.signature ((tables 𝓤 𝓛.H 𝓜 𝓡 𝓡.env).C k) (closing 𝓛 of_ended of_clauses)
    of_meets unfolds =
        let H = 𝓛.H in let 𝓣 = tables 𝓤 H 𝓜 𝓡 𝓡.env in let En = of_ended in let c = of_clauses in let fn = of_fn in let LZ = heap_laws.the_row_laws in
        let hs : Stays En.signature.params En.kept = (stay_dropped (plain (λ _. L)) yes, tt) in
        proved_at 𝓛 En hs c 𝓜 𝓡 (Goes-dropped 𝓛 0 (plain (λ _. L)) yes (λ κs x f. refl), tt) k fn unfolds (λ z are.
        let κs = z.0.0 in let v = z.0.3.0 in let a = v.alloc in let Post : Val → SProp 𝓤 = (walk_of 𝓛 En hs c).post z in let Run : List Val → SProp 𝓤 = λ ws. WpFn 𝓤 H 𝓣.C 𝓣.Λ fn ws Post in
        qed 𝓛 ((‵ ftrue ⊛ ‵ (owns (types_at En.signature.params κs) z.0.3 z.0.4)) ∷ raw ((c κs z.0.3).requires z.1) ∷ []) ∵ split ! $ move ! (1 ∷ []) $ fsplit ! $ raw_box_out R Z LZ ghosts ! v z.0.4.0 (λ b o h e ws fits.
        let w : Val = both (vptr b o) h in let w' : Val = word (vptr b o) true h in
        let i : Inside R = (block_ptr b o, (true, (a, Some v.value))) in let holds : (look (make i)).1.1.1 ≡ Some v.value = ap (λ (j : Inside R). j.1.1.1) (seen i) in
        suffices ! (Run (w ∷ [])) (subst (λ (us : List Val). ent 𝓤 (Run (w ∷ [])) (Run us)) (sym (λ i. ws i ++ [])) (id⊢ 𝓤 (Run (w ∷ [])))) $
        enter ! 𝓣.C 𝓣.Λ fn (w ∷ []) Post $ alloc_all ! (λ l. pass_all ! refl (raw_box_good R Z LZ ghosts b o h fits, tt) $
        sets ! (of_opd ! (get_in ! (fld ! refl (stop !)) (sub ! 0 refl (whole !)))) refl (tt, tt) $ sets ! (of_opd ! (get_in ! (fld ! refl (stop !)) (sub ! 1 refl (whole !)))) refl fits $
        sets ! (of_opd ! (get ! refl)) refl (tt, tt) $
        sets ! (agg ! (and_then ! (get ! refl) (and_then ! (true_lit !) (and_then ! (get ! refl) (no_more !))))) refl (and_tt _ fits.0, (tt, (tt, (fits.1, tt)))) $
        open_in ! b o h a v.value $ use0 𝓛 (raw (fact 𝓤 ((look (make i)).1.1.1 ≡ Some v.value))) (fact_i 𝓤 ((look (make i)).1.1.1 ≡ Some v.value) (emp 𝓤) holds) $ nothing ! $ nothing ! $ fjoin ! $
        returns ! (look_at ! 0 refl) $ free_all ! refl $ keep ! (4 ∷ 0 ∷ 2 ∷ 1 ∷ []) $ by ! (leaves 𝓛 En hs c z w' (make i) (tt, tt) (tt, tt)))))

  -- ---- what a handle holds
  abbrev Out : RattleType
  Out = option.the_row L

  abbrev into_ended : Ended
  into_ended = record {
    signature = record { lifetimes = 0; outlives = []; params = plain (λ κs. the_row) ∷ []; result = plain (λ κs. Out) };
    kept = (yes, tt);
  }

  abbrev into_fn : Fn
  into_fn = record {
    lifetimes = 0;
    outlives = [];
    ty_params = [];
    givens = 0;
    params = 1;
    locals = local (layout Out) value_local ∷ local (layout the_row) value_local ∷ local ty_ptr value_local ∷ local ty_bool value_local ∷ local (layout Z) value_local ∷ local ty_bool value_local
        ∷ local (layout Out) value_local ∷ local ty_ptr value_local ∷ local (layout L) value_local ∷ [];
    body = seq (assign (place 2 []) (rv_opd (copy (place 1 (field 0 ∷ []))))) (seq (assign (place 3 []) (rv_opd (copy (place 1 (field 1 ∷ []))))) (seq (assign (place 4 []) (rv_opd (copy (place 1 (field 2 ∷ []))))) (seq (assign (place 5 []) (rv_opd (copy (place 3 []))))
        (seq (cond (copy (place 5 [])) (seq (assign (place 7 []) (rv_opd (copy (place 2 [])))) (seq (assign (place 8 []) (aggregate (copy (place 7 []) ∷ copy (place 4 []) ∷ []))) (assign (place 6 []) (aggregate (int w8 1 ∷ copy (place 8 []) ∷ [])))))
        (assign (place 6 []) (aggregate (int w8 0 ∷ [])))) (seq (assign (place 0 []) (rv_opd (copy (place 6 [])))) «return»)))));
  }

  module _ {M : Type 1} (𝓤 : Ura M) (𝓛 : Logic 𝓤) (𝓜 : Model 𝓤 𝓛.H) (𝓡 : Running 𝓤 𝓛.H 𝓜) (k : Callee) where
    abbrev into_clauses : Clauses 𝓤 into_ended
    into_clauses = λ κs args. record { ghost = Unit {0}; requires = λ g. emp 𝓤; ensures = λ g r end. fact 𝓤 (MatchOption r ((look args.0).1.1.1 ≡ None) (λ raw_box. (look args.0).1.1.1 ≡ Some raw_box.value)) }

    pub into_meets : Closed 𝓤 𝓛.H (tables 𝓤 𝓛.H 𝓜 𝓡 𝓡.env).C (tables 𝓤 𝓛.H 𝓜 𝓡 𝓡.env).Λ k into_fn
        → Meets 𝓛 into_ended.signature ((tables 𝓤 𝓛.H 𝓜 𝓡 𝓡.env).C k) (closing 𝓛 into_ended into_clauses)
    into_meets unfolds =
        let H = 𝓛.H in let 𝓣 = tables 𝓤 H 𝓜 𝓡 𝓡.env in let En = into_ended in let c = into_clauses in let fn = into_fn in let LZ = heap_laws.the_row_laws in
        let hs : Stays En.signature.params En.kept = (stay_dropped (plain (λ _. the_row)) yes, tt) in
        proved_at 𝓛 En hs c 𝓜 𝓡 (Goes-dropped 𝓛 0 (plain (λ _. the_row)) yes (λ κs x f. refl), tt) k fn unfolds (λ z are.
        let κs = z.0.0 in let s : Inside R = look z.0.3.0 in let a = s.1.1.0 in let kept = s.1.1.1 in let Post : Val → SProp 𝓤 = (walk_of 𝓛 En hs c).post z in let Run : List Val → SProp 𝓤 = λ ws. WpFn 𝓤 H 𝓣.C 𝓣.Λ fn ws Post in
        qed 𝓛 ((‵ ftrue ⊛ ‵ (owns (types_at En.signature.params κs) z.0.3 z.0.4)) ∷ raw ((c κs z.0.3).requires z.1) ∷ []) ∵ split ! $ move ! (1 ∷ []) $ fsplit ! $ handle_out ! s.0 s.1.0 a kept z.0.4.0
        (λ h off is ws fits. let w : Val = word (ptr_val s.0) false h in
        suffices ! (Run (w ∷ [])) (subst (λ (us : List Val). ent 𝓤 (Run (w ∷ [])) (Run us)) (sym (λ i. ws i ++ [])) (id⊢ 𝓤 (Run (w ∷ [])))) $
        enter ! 𝓣.C 𝓣.Λ fn (w ∷ []) Post $ alloc_all ! (λ l. let Ev = env fn.locals l in pass_all ! refl ((both_tt _ _ (Ptr-Good s.0).0 fits.0, ((Ptr-Good s.0).1, (tt, (fits.1, tt)))), tt) $
        sets ! (of_opd ! (get_in ! (fld ! refl (stop !)) (sub ! 0 refl (whole !)))) refl (Ptr-Good s.0) $ sets ! (of_opd ! (get_in ! (fld ! refl (stop !)) (sub ! 1 refl (whole !)))) refl (tt, tt) $ sets ! (of_opd ! (get_in ! (fld ! refl (stop !)) (sub ! 2 refl (whole !)))) refl fits $
        sets ! (of_opd ! (get ! refl)) refl (tt, tt) $ first ! $ branches ! (get ! refl) (λ wrong. absurd wrong) (λ _.
        sets_last ! (agg ! (and_then ! (lit ! tt) (no_more !))) refl (tt, (record { fits = lit< tt }, tt)) $ exec ! 𝓣.C 𝓣.Λ Ev (after 5 fn.body) (at_ret Ev Post) $ sets ! (of_opd ! (get ! refl)) refl (tt, (record { fits = lit< tt }, tt)) $
        use0 𝓛 (‵ (Out.own_val None (live 0 vnil ∷ []))) (none_of 𝓛 L) $ use0 𝓛 (raw (fact 𝓤 (kept ≡ None))) (fact_i 𝓤 (kept ≡ None) (emp 𝓤) is) $ nothing ! $ nothing ! $ fjoin ! $
        returns ! (look_at ! 0 refl) $ free_all ! refl $ keep ! (5 ∷ 0 ∷ 2 ∷ 1 ∷ []) $ by ! (leaves 𝓛 En hs c z (live 0 vnil) None (tt, tt) (tt, tt)))))
        (λ b o h x is ws fits. let w : Val = word (vptr b o) true h in
        let made : Val = both (vptr b o) h in let typed = raw_box_good R Z LZ ghosts b o h fits in let v₁ : Val = live 1 (vcons made vnil) in let d : L.Denot = record { at = block_ptr b o; alloc = a; value = x } in
        let good : Good (layout Out) v₁ = (and_tt _ typed.0, (record { fits = lit< tt }, (typed.1, tt))) in
        suffices ! (Run (w ∷ [])) (subst (λ (us : List Val). ent 𝓤 (Run (w ∷ [])) (Run us)) (sym (λ i. ws i ++ [])) (id⊢ 𝓤 (Run (w ∷ [])))) $
        enter ! 𝓣.C 𝓣.Λ fn (w ∷ []) Post $ alloc_all ! (λ l. let Ev = env fn.locals l in pass_all ! refl ((and_tt _ fits.0, (tt, (tt, (fits.1, tt)))), tt) $
        sets ! (of_opd ! (get_in ! (fld ! refl (stop !)) (sub ! 0 refl (whole !)))) refl (tt, tt) $ sets ! (of_opd ! (get_in ! (fld ! refl (stop !)) (sub ! 1 refl (whole !)))) refl (tt, tt) $ sets ! (of_opd ! (get_in ! (fld ! refl (stop !)) (sub ! 2 refl (whole !)))) refl fits $
        sets ! (of_opd ! (get ! refl)) refl (tt, tt) $ first ! $ branches ! (get ! refl) (λ _.
        sets ! (of_opd ! (get ! refl)) refl (tt, tt) $
        sets ! (agg ! (and_then ! (get ! refl) (and_then ! (get ! refl) (no_more !)))) refl typed $ sets_last ! (agg ! (and_then ! (lit ! tt) (and_then ! (get ! refl) (no_more !)))) refl good $
        exec ! 𝓣.C 𝓣.Λ Ev (after 5 fn.body) (at_ret Ev Post) $ sets ! (of_opd ! (get ! refl)) refl good $ raw_box_in R Z LZ ghosts ! b o h a x $
        use1 𝓛 (‵ (Out.own_val (Some d) (v₁ ∷ []))) (Some-of 𝓛 L d made) $ use0 𝓛 (raw (fact 𝓤 (kept ≡ Some x))) (fact_i 𝓤 (kept ≡ Some x) (emp 𝓤) is) $ nothing ! $ nothing ! $ fjoin ! $
        returns ! (look_at ! 0 refl) $ free_all ! refl $ keep ! (4 ∷ 0 ∷ 2 ∷ 1 ∷ []) $ by ! (leaves 𝓛 En hs c z v₁ (Some d) (tt, tt) (tt, tt))) (λ wrong. absurd wrong))))
