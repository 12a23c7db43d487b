-- The digits of a request to units-why.
use Rattle.std.specs.Prelude.{◌≤◌, IfSome}
use Rattle.command_line.specs.declared.why_request.WhyCommandLine.{WhyCommandLine}
use Rattle.command_line.specs.declared.why_request.WhyCommandLine.TheVariants.{Request, Version}
use Rattle.command_line.specs.declared.why_request.WhyRequest.{WhyRequest}

-- if the request has a number of digits, it is from 1 to 36
abbrev pub HasWhyDigits : WhyRequest → Type 0
HasWhyDigits request = IfSome request.digits (λ digits. (1 ≤ digits) × (digits ≤ 36))

-- the same for a command line, which has a request or asks for the version
abbrev pub HasWhyLineDigits : WhyCommandLine → Type 0
HasWhyLineDigits Version = Unit {0}
HasWhyLineDigits (Request request) = HasWhyDigits request
