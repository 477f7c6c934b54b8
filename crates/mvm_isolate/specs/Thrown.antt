-- The classes of which the machine itself makes objects, by name (Java SE 8 API, java.lang).
use Rattle.std.specs.Prelude.{ℕ, List, codes}
use Rattle.mvm_native.specs.declared.out.Thrown.{Thrown}
use Rattle.mvm_native.specs.declared.out.Thrown.TheVariants as thrown

-- the class of System.out
abbrev pub STREAM : List ℕ
STREAM = codes "java/io/PrintStream"

-- the class of threads
abbrev pub THREAD : List ℕ
THREAD = codes "java/lang/Thread"

-- the classes of what the machine throws itself
unfoldable pub name_of_thrown : Thrown → List ℕ
name_of_thrown thrown.ArithmeticException = codes "java/lang/ArithmeticException"
name_of_thrown thrown.ArrayStoreException = codes "java/lang/ArrayStoreException"
name_of_thrown thrown.ClassCastException = codes "java/lang/ClassCastException"
name_of_thrown thrown.IllegalArgumentException = codes "java/lang/IllegalArgumentException"
name_of_thrown thrown.NumberFormatException = codes "java/lang/NumberFormatException"
name_of_thrown thrown.IllegalThreadStateException = codes "java/lang/IllegalThreadStateException"
name_of_thrown thrown.IllegalMonitorStateException = codes "java/lang/IllegalMonitorStateException"
name_of_thrown thrown.IllegalStateException = codes "java/lang/IllegalStateException"
name_of_thrown thrown.ArrayIndexOutOfBoundsException = codes "java/lang/ArrayIndexOutOfBoundsException"
name_of_thrown thrown.StringIndexOutOfBoundsException = codes "java/lang/StringIndexOutOfBoundsException"
name_of_thrown thrown.NegativeArraySizeException = codes "java/lang/NegativeArraySizeException"
name_of_thrown thrown.NullPointerException = codes "java/lang/NullPointerException"
name_of_thrown thrown.ClosedLinkException = codes "javax/isolate/ClosedLinkException"
name_of_thrown thrown.ClassCircularityError = codes "java/lang/ClassCircularityError"
name_of_thrown thrown.ClassFormatError = codes "java/lang/ClassFormatError"
name_of_thrown thrown.UnsupportedClassVersionError = codes "java/lang/UnsupportedClassVersionError"
name_of_thrown thrown.ExceptionInInitializerError = codes "java/lang/ExceptionInInitializerError"
name_of_thrown thrown.IncompatibleClassChangeError = codes "java/lang/IncompatibleClassChangeError"
name_of_thrown thrown.AbstractMethodError = codes "java/lang/AbstractMethodError"
name_of_thrown thrown.IllegalAccessError = codes "java/lang/IllegalAccessError"
name_of_thrown thrown.InstantiationError = codes "java/lang/InstantiationError"
name_of_thrown thrown.NoSuchFieldError = codes "java/lang/NoSuchFieldError"
name_of_thrown thrown.NoSuchMethodError = codes "java/lang/NoSuchMethodError"
name_of_thrown thrown.NoClassDefFoundError = codes "java/lang/NoClassDefFoundError"
name_of_thrown thrown.UnsatisfiedLinkError = codes "java/lang/UnsatisfiedLinkError"
name_of_thrown thrown.VerifyError = codes "java/lang/VerifyError"
name_of_thrown thrown.OutOfMemoryError = codes "java/lang/OutOfMemoryError"
name_of_thrown thrown.StackOverflowError = codes "java/lang/StackOverflowError"

-- ---- in the order of one table

-- the place of a throwable in src/known.rt's table
unfoldable pub place_of_thrown : Thrown → ℕ
place_of_thrown thrown.ArithmeticException = 0
place_of_thrown thrown.ArrayStoreException = 1
place_of_thrown thrown.ClassCastException = 2
place_of_thrown thrown.IllegalArgumentException = 3
place_of_thrown thrown.NumberFormatException = 4
place_of_thrown thrown.IllegalThreadStateException = 5
place_of_thrown thrown.IllegalMonitorStateException = 6
place_of_thrown thrown.IllegalStateException = 7
place_of_thrown thrown.ArrayIndexOutOfBoundsException = 8
place_of_thrown thrown.StringIndexOutOfBoundsException = 9
place_of_thrown thrown.NegativeArraySizeException = 10
place_of_thrown thrown.NullPointerException = 11
place_of_thrown thrown.ClosedLinkException = 12
place_of_thrown thrown.ClassCircularityError = 13
place_of_thrown thrown.ClassFormatError = 14
place_of_thrown thrown.UnsupportedClassVersionError = 15
place_of_thrown thrown.ExceptionInInitializerError = 16
place_of_thrown thrown.IncompatibleClassChangeError = 17
place_of_thrown thrown.AbstractMethodError = 18
place_of_thrown thrown.IllegalAccessError = 19
place_of_thrown thrown.InstantiationError = 20
place_of_thrown thrown.NoSuchFieldError = 21
place_of_thrown thrown.NoSuchMethodError = 22
place_of_thrown thrown.NoClassDefFoundError = 23
place_of_thrown thrown.UnsatisfiedLinkError = 24
place_of_thrown thrown.VerifyError = 25
place_of_thrown thrown.OutOfMemoryError = 26
place_of_thrown thrown.StackOverflowError = 27
