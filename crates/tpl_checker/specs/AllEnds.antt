-- How WhenAll tasks may end, argument by argument.
use Rattle.std.specs.Prelude.{◌&&◌, ◌||◌, true, false}
use Rattle.tpl_model.specs.declared.finals.Finals.{Finals}
use Rattle.tpl_checker.specs.declared.all_ends.AllEnds.{AllEnds}

-- before the first argument
abbrev pub no_argument : AllEnds
no_argument = record { ran = true; final_all = true; none_faulted = true; canceled = false; faulted = false }

-- after one more, which may end in these ways
abbrev pub with_argument : AllEnds → Finals → AllEnds
with_argument a ends = record {
  ran = a.ran && ends.ran;
  final_all = a.final_all && (ends.ran || (ends.canceled || ends.faulted));
  none_faulted = a.none_faulted && (ends.ran || ends.canceled);
  canceled = a.canceled || ends.canceled;
  faulted = a.faulted || ends.faulted;
}

-- how the task may end
abbrev pub ended_together : AllEnds → Finals
ended_together a = record { ran = a.ran; canceled = a.none_faulted && a.canceled; faulted = a.final_all && a.faulted }
