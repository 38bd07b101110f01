-- The numbers of the refusals of a view and of a verdict (own).
use Rattle.std.specs.Prelude.{ℕ}
use Rattle.sqview.specs.declared.judge_error.JudgeError.{JudgeError}
use Rattle.sqview.specs.declared.judge_error.JudgeError.TheVariants as judged
use Rattle.sqview.specs.declared.view_error.ViewError.{ViewError}
use Rattle.sqview.specs.declared.view_error.ViewError.TheVariants as viewed

abbrev pub view_number : ViewError → ℕ
view_number viewed.TwoLogs = 1
view_number viewed.TooLarge = 2
view_number (viewed.Header fault) = 3
view_number viewed.Unread = 4
view_number viewed.NoMemory = 5
view_number viewed.NoSuchCommit = 6

abbrev pub judge_number : JudgeError → ℕ
judge_number judged.TwoLogs = 1
judge_number judged.TooLarge = 2
judge_number judged.AutoVacuum = 3
judge_number judged.Unread = 4
judge_number judged.NoMemory = 5
judge_number judged.NoSuchCommit = 6
