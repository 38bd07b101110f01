use Rattle.std.proofs.Common.{◌≡◌, ◌<◌, ℕ, get_or}
use Rattle.sqcheck.specs.declared.role.Role.TheVariants.{Unused}
use Rattle.sqrescue_c.specs.Roles.{role_of}
use Rattle.sqrescue_c.specs.declared.roles.PageRole.{PageRole}
use Rattle.sqrescue_c.proofs.roles.copy_roles.Given as goal

abbrev pub invariant-loop-i : goal.invariant-loop-i
invariant-loop-i l = (k : ℕ) (r : PageRole) → k < l.i → get_or l.roles k r ≡ role_of (get_or l.found k Unused)
