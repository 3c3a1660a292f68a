mod StepLaws
mod VerdictLaws
