-- Walks by hand: a proof that follows a function's MIR statement by statement, in the place of one that Rattle finds. The lemmas here are
-- general over the function's parameters and their types; of its callees a walk cites the contracts alone.
--
-- A walk explained, line by line, of
--     pub fn twice(nodes: &mut [Node], i: usize, j: usize) -> u64 {
--         let n = fetch(nodes, i);
--         store(nodes, j, n);
--         7
--     }
-- where `fetch(nodes: &[Node], i: usize) -> Node` reads a node and `store(nodes: &mut [Node], i: usize, n: Node)` writes one. Its MIR has
-- locals 0 to 9: 0 the result, 1 to 3 the parameters, 4 n, the others as the compiler needs them. N is the contract module of `Node`,
-- L its laws (`Node.TheLaws`), f the contract of `twice`.
--     ps = lent N.the_row ∷ value usize ∷ value usize ∷ []
--     node = struct_plain 𝓛 N.the_type L.the_laws L.the_plain;  size = uint_plain 𝓛 w64;  pl = (size, (size, tt))
--     Ens r ws = (f.clauses 𝓛 mem run κs a).ensures tt r (at_exit f.ended κs a ws)
--     walk : (a.1.0 < length a.0.now) × (a.1.1.0 < length a.0.now) → Walked 𝓛 ps pl κs qs a 𝓣.C 𝓣.Λ code.function u64 Ens
--     walk pre = starts 𝓛 ps pl κs qs a 𝓣.C 𝓣.Λ code.function u64 Ens (fitted 𝓛 ps pl a kn) (λ bs.
--         reborrow ! 1 5 6 refl refl $
--         calls-of ! 𝓣 (11 ∷ []) p₀ t₀ (((L.the_row_copy).copied M 𝓤 𝓛).shares full_share κs.0, (size.makes i _ kn.1.0, tt)) N.the_row
--         (λ z. k₀ (at p₀ t₀ z, tt)) (λ z. said1 𝓛 pre.0) (λ z r ws. id⊢ 𝓤 _) refl (copies ! (6 ∷ 2 ∷ []) refl) (λ w n us lu is en.
--         takes ! 4 refl (node.lawful.typed n _ is).0 $
--         reborrow ! 1 8 9 refl refl $
--         calls-of ! 𝓣 (11 ∷ []) p₁ t₁ (size.makes j _ kn.1.1.0, (node.makes n _ is, tt)) unit
--         (λ z. k₁ (at p₁ t₁ z, tt)) (λ z. said1 𝓛 pre.1) (λ z r ws. id⊢ 𝓤 _) refl (copies ! (9 ∷ 3 ∷ 4 ∷ []) refl) (λ w₁ r cs lc is₁ ec.
--         takes ! 7 refl ((unit-plain 𝓛).lawful.typed r _ is₁).0 $
--         sets ! 0 (of_opd ! (lit ! tt)) refl (tt, record { fits = seven }) $ returns ! (look ! 0 refl) $ leaves ! refl refl $
--         by ! (ends_with 𝓛 ps pl κs qs a vss u64 size Ens (vint w64 7) 7 (refl, seven)
--         (cs.0, (tt, (tt, tt))) (lc.0, tt) (said1 𝓛 ..)))))
-- with p₀ = viewed N.the_row ∷ value usize ∷ [] and
-- t₀ = ((κs.0, tt), (qs.0, tt), tt, (a.0, (i, tt)), (vss.0, (vint w64 i ∷ [], tt))), and p₁ and t₁ likewise.
--     ps                       the parameters, in order: `lent R` is a `&mut [T]`, `copied R` a `&[T]`, `borrowed R` a `&mut T`,
--                              `value R` by value
--     pl                       for each parameter by value what is known of its type: `uint_plain`, `struct_plain`, `enum_plain`
--     κs qs a kn               lifetimes and shares of the references, never looked into; the arguments, `a.0` nodes, `a.1.0` i, ..;
--                              and that they are of their types. `x.now` is the list that a reference shows. vss their machine values
--     k₀ k₁                    the contracts of the callees
--     Ens, pre                 what the contract ensures, of a result and the last lists; what it requires
--     starts …                 the locals are there and the arguments stored. From here on entry i of the context is local i; entry 10 is
--                              what frees them, and entry 11 is the reference: those of the parameters stand there in order
--     reborrow ! 1 5 6 …       `&*nodes` for a call: two statements of MIR, from local 1 by way of local 5 into local 6
--     p₀, t₀                   how the call's arguments are passed (nodes `viewed`, for a callee that only reads it), and what is bound
--     calls-of ! 𝓣 π p₀ t₀ …   the call. π: the entries of the references passed. Then `Made`, why the arguments by value are of their
--                              types, and of the elements of a `&[T]` the law by which one is made or copied; the type of the result; the
--                              contract; what it requires, `said1`; whether it ensures one fact, `id⊢`, or two, `told2`; the operands,
--                              `copies` of locals, or each by itself: `var ! i` local i, `part ! i k` its field k. After it: the machine
--                              value w, the result n, the last lists us, that they are as long (lu), that w is n's value (is), and what
--                              is ensured (en). `calls-to` does the next line too
--     takes ! 4 …              the result is written to local 4. `sets ! i` is an assignment
--     returns …, leaves …      `return`: local 0 is read, the locals are freed
--     ends_with …              the result, the last list of each reference, that it is as long as it was, and what is ensured
-- The theorem, from the walk and the callees' theorems (m₀ and m₁, their `Met.met`), is the same for every function but for the names:
--     twice_spec 𝓤 𝓛 𝓜 𝓡 wired =
--         let 𝓣 = tables_of 𝓤 𝓛.H 𝓜 (tables 𝓤 𝓛.H 𝓜 𝓡 𝓡.env) in
--         entered 𝓤 𝓛.H (triple_of 𝓛 f.signature (f.spec 𝓛 𝓜.mem 𝓡.returns)) 𝓣.C 𝓣.Λ f.Key.name code.function
--         (code.unfolded 𝓤 𝓛.H 𝓜 𝓡 wired)
--         (λ y. met 𝓛 ps (pl ..) y.0.0 y.0.1 y.0.3 y.0.4 _ (told2 𝓛) (WpFn 𝓤 𝓛.H 𝓣.C 𝓣.Λ code.function)
--         (λ kn pre. walk .. y.0.0 y.0.1 y.0.3 kn 𝓣 (m₀ 𝓤 𝓛 𝓜 𝓡 (code.calls-… 𝓡.env wired)) (m₁ ..) pre))
-- under `unfolding tables_of`. A field of a result is read once `respell` has written its value by its fields. An early return is
-- `returns_within` in an arm of `checks`, a loop `whiles`, a local array `lends_local`, a lent struct `opens_at`.
pub mod Lending
pub mod Loan
pub mod Positions
pub mod PlainData
pub mod Enter
pub mod Leave
pub mod Locals
pub mod Open
pub mod Statements
pub mod Call
pub mod Loop
pub mod Branches
pub mod Arrays
pub mod Prelude
