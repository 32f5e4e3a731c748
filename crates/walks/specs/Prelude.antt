-- The names that a walk by hand needs, under one module: of the language's library, of the logic, and of this crate. Assumes `Logic`.
pub use Rattle.std.specs.Prelude.{◌≡◌, refl, ℕ, ◌+◌, ◌-◌, ◌≤◌, ◌<◌, Bool, true, false, not, List, [], ◌∷◌, ◌++◌, length, ℤ, T as Holds}
pub use Rattle.std.proofs.Common.{sym, ◌∙◌, ap, subst}
pub use Rattle.std.proofs.Math.Option.{Option, none, some}
pub use mathlib.Core.WellFounded.InvImage.{wf as InvImage·wf}
pub use mathlib.Core.WellFounded.{WellFounded}
pub use lib.WfN.{lt-wf_rel as Nat·lt-wfRel}
pub use seplogic.Ra.Ura.{Ura}
pub use mir.Syntax.{w8, w16, w32, w64, ty_int}
pub use mir.Val.{Val, vunit, vint, vbool, vptr}
pub use denote.Steps.{only}
pub use denote.Laws.{Is}
pub use base.Logic.{SProp, id⊢}
pub use prog.Memory.{Memory}
pub use prog.Routine.{Routine}
pub use base.Fml.{fat}
pub use base.Fraction.{full_share}
pub use prog.Wp.{Heap, Env, Out, Wp, WpFn, Tables, at_return, after_seq, after_block}
unfoldable pub use prog.Wp.{after_turn}
pub use ghost.Atoms.{Atoms}
pub use contract.Monad.{Fun}
unfoldable pub use contract.Running.{tables, tables_of}
pub use types.Logic.{Logic}
pub use types.Kit.{Item, ‵, runs, any_q, at_ret, Sq, ◌$◌, ◌∵◌, !, by, rewrite}
pub use types.Run.{look, look_raw, store_raw, init, hop, fld, addr, stop, from, load, lit, unit_lit, true_lit, false_lit, of_opd}
pub use types.Run.{and_then, no_more, assigns, land, land_last, returns, returns_within, store, bin, first, blocks as Within-block, exec}
pub use types.Run.{Below as Lower, again, loops}
pub use Rattle.std.specs.Borrow.{RattleType, u8, u16, u32, u64, usize, i32, bool, unit}
pub use denote.Slice.{shr_slice_vals, mut_slice_vals}
pub use denote.Triple.Spec.{triple_of, Meets}
pub use denote.Triple.Clauses.{at_exit}
pub use denote.Triple.Table.{entered, cited}
pub use Rattle.walks.specs.Loan.{Par, value, copied, viewed, lent, borrowed, Lfs, Shs, Dens, Vss, Ends, Long, ended, row, holds}
pub use Rattle.walks.specs.PlainData.{Plain, uint_plain, bool-plain, unit-plain, struct_plain, enum_plain}
pub use Rattle.walks.specs.Enter.{Plains, Known, spelled, fitted, met, told0, told2, said1, said2}
pub use Rattle.walks.specs.Leave.{After, Ending, ends_with}
pub use Rattle.walks.specs.Locals.{Blocks, env_at, dying, reborrow, respell, leaves}
pub use Rattle.walks.specs.Open.{opens_at, closes_at, opens-elem, closes-elem, looks-elem, shuts-elem}
pub use Rattle.walks.specs.Statements.{var, part, big-lit, sets, resets, takes, retakes, retakes-last}
pub use Rattle.walks.specs.Call.{Bind, at, calls-of, calls-of-last, calls-to, copies, copies-but}
pub use Rattle.walks.specs.Loop.{Walked, starts, cells, Inv, Turn, whiles, next-turn, forgets}
pub use Rattle.walks.specs.Arrays.{repeated, local, lends_local, ends-local, lends_first, ends-first, slices-local}
pub use Rattle.walks.specs.Branches.{tests, checks, ne_of, not-not, lt_le, lt_lt, le_le, lt_of_lt, lt_keeps, le_keeps, below_one}
pub use Rattle.walks.specs.Branches.{le_refl}
